pub mod Coming
pub mod Ends
pub mod Jobs
pub mod Turning
