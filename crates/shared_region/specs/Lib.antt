pub mod Entries
pub mod Inside
pub mod Moves
pub mod Operations
pub mod Shared
