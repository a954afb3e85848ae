-- The lemmas by subject.
pub mod Leader
