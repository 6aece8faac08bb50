pub mod Files
pub mod World
