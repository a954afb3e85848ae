pub mod Asked
pub mod Heard
pub mod May
pub mod Served
pub mod Moving
