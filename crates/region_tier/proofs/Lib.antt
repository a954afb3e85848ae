pub mod Lists
pub mod Locks
pub mod At
pub mod Sound
pub mod Dealing
pub mod Ending
pub mod Made
