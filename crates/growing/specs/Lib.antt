pub mod Grown
pub mod Ready
pub mod Collapse
pub mod OrderOf
pub mod Fact1
pub mod Part
pub mod Complete
pub mod Shortened
