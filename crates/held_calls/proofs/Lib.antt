pub mod Alike
pub mod Steps
pub mod Walks
pub mod Turned
