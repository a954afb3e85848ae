pub mod ShortReads
pub mod Granting
pub mod Within
pub mod Starts
