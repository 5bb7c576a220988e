pub mod Checked
pub mod Filling
