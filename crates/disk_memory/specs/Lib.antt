pub mod Held
pub mod Steps
pub mod Laws
pub mod Outcomes
pub mod Host
pub mod Room
