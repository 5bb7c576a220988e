pub mod Form
pub mod Leaves
pub mod Pruned
pub mod Same
pub mod Size
