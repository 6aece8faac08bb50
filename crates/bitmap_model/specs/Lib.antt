pub mod Granules
pub mod Runs
pub mod Bitmap
pub mod Bitmaps
pub mod Copies
pub mod Laws
pub mod BitmapLaws
