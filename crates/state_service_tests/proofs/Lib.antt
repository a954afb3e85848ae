pub mod Order
pub mod OneKey
pub mod Moved
pub mod Turns
pub mod Plain
pub mod Held
