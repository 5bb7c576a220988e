pub mod Larger
pub mod Chains
pub mod Falls
pub mod Count
pub mod Forest
pub mod Clades
