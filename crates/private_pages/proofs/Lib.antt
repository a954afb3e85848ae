mod Contents
mod Entries
mod Joined
mod Kept
mod Loops
pub mod Overs
