pub mod Further
pub mod Led
pub mod Listens
pub mod Turning
pub mod Asks
pub mod Adds
