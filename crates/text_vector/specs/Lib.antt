pub mod Kept
pub mod Gives
