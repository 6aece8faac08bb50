pub mod Inside
pub mod Allocator
pub mod Opening
pub mod Growing
pub mod Laws
pub mod Settling
pub mod Tables
