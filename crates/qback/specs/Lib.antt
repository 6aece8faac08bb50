pub mod Holding
pub mod Real
