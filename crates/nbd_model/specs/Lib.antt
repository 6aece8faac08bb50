pub mod Numbers
pub mod Options
pub mod Requests
pub mod Sessions
pub mod Laws
