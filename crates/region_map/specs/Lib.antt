pub mod Segments
pub mod SegmentedMemory
