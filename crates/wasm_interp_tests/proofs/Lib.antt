pub mod Trying
pub mod Borders
