pub mod Owns
pub mod Tables
pub mod Types
