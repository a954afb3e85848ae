pub mod Appended
pub mod Failing
pub mod Faults
pub mod Files
pub mod MemShelf
pub mod MemSink
