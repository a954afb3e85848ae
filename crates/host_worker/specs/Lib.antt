pub mod Hearing
pub mod Seats
pub mod Busy
pub mod Halts
pub mod Asking
pub mod Starting
pub mod Grew
