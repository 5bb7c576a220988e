pub mod Tree
pub mod Pass
