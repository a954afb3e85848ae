pub mod Counted
pub mod Allowed
pub mod Begun
pub mod Places
pub mod Hosts
pub mod Turns
pub mod Lending
