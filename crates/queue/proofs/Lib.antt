pub mod Taking
pub mod Emptying
