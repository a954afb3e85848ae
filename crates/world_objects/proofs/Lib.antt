mod LockCounts
mod Moved
mod Sizes
mod Placed
mod Serving
pub mod Worlds
