pub mod Coming
pub mod Ending
pub mod Taking
pub mod Turned
