pub mod Ends
pub mod Leb
pub mod Loop
pub mod Signed
pub mod Stack
