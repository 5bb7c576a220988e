pub mod Insertion
pub mod Once
pub mod Greedy
pub mod Named
pub mod Without
