pub mod Commas
pub mod Parts
