pub mod Entries
pub mod Refuses
pub mod Shows
