pub mod Key
pub mod Walk
pub mod Chain
pub mod Drawn
pub mod Built
pub mod Leaves
