pub mod Counts
pub mod Knows
pub mod Leaves
pub mod Seen
