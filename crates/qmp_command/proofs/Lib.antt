pub mod Looking
pub mod Giving
pub mod Acting
pub mod Commanding
pub mod Whole
pub mod Computing
pub mod Ordered
pub mod Accepted
