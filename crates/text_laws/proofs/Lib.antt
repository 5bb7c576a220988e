pub mod Answers
pub mod Bytes
pub mod Cells
pub mod Digits
pub mod Nodes
pub mod Recorded
pub mod Whole
