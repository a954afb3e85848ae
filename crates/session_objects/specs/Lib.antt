pub mod Shape
pub mod Lists
pub mod Parts
pub mod Rests
pub mod Ended
