pub mod Rests
mod Refusals
pub mod Sources
pub mod Keeping
pub mod Causing
pub mod Rises
