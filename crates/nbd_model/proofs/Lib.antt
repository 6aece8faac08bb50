pub mod Streams
pub mod Within
