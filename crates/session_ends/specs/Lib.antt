pub mod Bench
pub mod Ended
pub mod Opened
pub mod Session
