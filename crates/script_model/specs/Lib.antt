pub mod Words
pub mod Lines
pub mod Texts
pub mod Recording
pub mod Laws
