pub mod Least
pub mod Freed
