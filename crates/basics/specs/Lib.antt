pub mod Sums
pub mod Names
pub mod Flagged
