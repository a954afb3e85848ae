pub mod AnsweredBy
pub mod Parts
pub mod Ran
pub mod Runs
