mod Calls
pub mod Counting
mod Laying
mod NewFiles
pub mod Sizes
