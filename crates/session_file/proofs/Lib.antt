pub mod Files
pub mod Leaves
pub mod MemberNames
pub mod Refusing
pub mod Turns
