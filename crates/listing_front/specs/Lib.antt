pub mod Front
pub mod Commas
