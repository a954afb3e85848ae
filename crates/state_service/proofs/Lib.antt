pub mod Turned
pub mod Moves
pub mod Turns
pub mod Asks
pub mod Listens
