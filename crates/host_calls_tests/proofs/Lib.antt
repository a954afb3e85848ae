pub mod Asking
pub mod StateAsking
