pub mod Through
pub mod Claiming
pub mod Level
