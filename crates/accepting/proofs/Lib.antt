pub mod Answers
pub mod FromTable
pub mod FromVector
pub mod Guards
pub mod Kept
