pub mod Greedy
pub mod Insertion
pub mod Named
pub mod Once
pub mod Rest
pub mod Without
