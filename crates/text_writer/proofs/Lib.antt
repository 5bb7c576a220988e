pub mod Standing
pub mod Nodes
