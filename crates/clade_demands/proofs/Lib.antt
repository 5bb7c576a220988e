pub mod Answered
pub mod CladeTable
pub mod Occurs
pub mod Reordered
