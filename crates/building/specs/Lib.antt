pub mod Labels
pub mod Next
pub mod Built
pub mod Going
pub mod InOrder
pub mod Shortened
