pub mod Sets
pub mod Inside
pub mod Pool
pub mod Laws
