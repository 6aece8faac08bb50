pub mod Closing
pub mod Finding
pub mod Images
pub mod Inside
pub mod Laws
pub mod Opening
pub mod Refusals
pub mod Requests
