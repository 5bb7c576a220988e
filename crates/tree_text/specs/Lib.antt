pub mod Long
pub mod OrderedRows
pub mod Fits
