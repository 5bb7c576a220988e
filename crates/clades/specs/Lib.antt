pub mod Leaves
pub mod Size
pub mod Form
pub mod Pruned
