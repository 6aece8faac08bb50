pub mod Messages
pub mod Commands
pub mod Recorded
pub mod Replies
pub mod Laws
