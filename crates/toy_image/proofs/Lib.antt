pub mod Alike
pub mod Free
pub mod Looking
pub mod Raising
