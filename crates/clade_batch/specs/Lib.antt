pub mod Held
pub mod Place
pub mod Moved
pub mod Added
pub mod AddAll
