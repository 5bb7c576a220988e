pub mod Marks
pub mod Kept
pub mod Places
pub mod Plain
pub mod Cut
pub mod Labels
