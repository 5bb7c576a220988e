pub mod Cells
pub mod Answers
pub mod Digits
pub mod Nodes
pub mod Whole
pub mod Numbered
pub mod Recorded
