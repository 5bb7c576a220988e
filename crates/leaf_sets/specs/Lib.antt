pub mod Bits
pub mod Merging
