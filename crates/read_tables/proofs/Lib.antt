pub mod Chains
pub mod Clades
pub mod Collapse
pub mod Count
pub mod Falls
pub mod Forest
pub mod Larger
