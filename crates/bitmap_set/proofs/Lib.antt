pub mod Places
pub mod Granules
pub mod Texts
pub mod Changes
pub mod Merging
pub mod Adding
pub mod Marking
pub mod Removing
