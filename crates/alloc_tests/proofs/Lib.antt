pub mod Filling
pub mod OnFile
mod Dropped
mod Begun
mod Stored
