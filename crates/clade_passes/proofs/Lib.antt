pub mod Archive
pub mod Batches
pub mod Bounds
pub mod Collected
pub mod Merged
pub mod NoBytes
pub mod Passes
