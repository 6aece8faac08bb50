pub mod Caller
pub mod Opening
pub mod Storing
