pub mod Number
pub mod Bytes
pub mod Window
pub mod Fields
pub mod FromRecord
pub mod Inverse
