pub mod Points
pub mod Timelines
pub mod Spans
pub mod Laws
