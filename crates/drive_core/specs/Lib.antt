pub mod Drive
pub mod Settling
