pub mod LiesIn
pub mod CanStart
