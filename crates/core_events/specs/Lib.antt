pub mod Events
pub mod Answers
pub mod Views
pub mod Laws
