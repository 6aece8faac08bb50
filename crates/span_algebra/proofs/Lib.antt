pub mod PointOrder
pub mod Touched
pub mod Dates
pub mod Growth
pub mod LastPoint
pub mod Merging
