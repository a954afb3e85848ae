pub mod Asked
pub mod Grown
pub mod Heard
pub mod May
pub mod Served
pub mod Turned
