pub mod Heads
pub mod Contents
pub mod Spelling
pub mod Laws
