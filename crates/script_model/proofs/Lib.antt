pub mod Numbers
pub mod Lacking
pub mod WordLaws
pub mod Sayings
pub mod Spellings
pub mod Rereading
pub mod Recorded
