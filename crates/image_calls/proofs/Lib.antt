pub mod Beside
pub mod FirstSectors
pub mod NewFiles
pub mod Refusing
