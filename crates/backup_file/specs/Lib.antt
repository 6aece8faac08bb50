pub mod Creating
pub mod Headings
pub mod Laws
pub mod Layout
pub mod Made
pub mod Plans
