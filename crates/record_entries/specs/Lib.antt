pub mod Contains
pub mod Makes
