pub mod Fault
pub mod Marks
pub mod Looking
