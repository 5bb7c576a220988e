pub mod Count
pub mod Wrote
