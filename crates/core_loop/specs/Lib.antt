pub mod Course
pub mod Sessions
pub mod Crashes
pub mod Laws
