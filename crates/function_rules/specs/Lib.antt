pub mod Exports
pub mod HostCalls
pub mod Reasons
pub mod Signatures
