pub mod Words
pub mod Longer
pub mod Leaves
