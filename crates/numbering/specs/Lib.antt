pub mod Numbered
pub mod Columns
