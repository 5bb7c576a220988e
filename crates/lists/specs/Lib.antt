pub mod Front
pub mod Leaves
