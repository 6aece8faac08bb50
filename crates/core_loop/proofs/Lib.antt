pub mod Apart
pub mod Courses
pub mod Going
pub mod Looping
pub mod Opening
pub mod Whole
pub mod Consequences
pub mod Refusals
