pub mod Bools
pub mod Cases
pub mod Fault
pub mod Flagged
pub mod Listed
pub mod Mapped
pub mod Names
pub mod Sums
