pub mod Built
pub mod Decoded
pub mod Sections
