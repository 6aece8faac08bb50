pub mod Turns
pub mod Connections
pub mod Parts
pub mod Negotiating
pub mod Reading
