pub mod Seen
pub mod Counting
pub mod Known
pub mod LockTurns
pub mod Taking
pub mod Free
pub mod Ends
