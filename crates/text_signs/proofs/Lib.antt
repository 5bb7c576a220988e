pub mod Looks
pub mod Squeezing
