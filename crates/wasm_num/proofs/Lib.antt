pub mod Digits
pub mod Shifts
pub mod Rows
pub mod Ranges
pub mod Classes
