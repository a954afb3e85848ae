pub mod Holding
pub mod Opened
pub mod Answered
pub mod Tiers
