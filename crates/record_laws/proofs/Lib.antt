pub mod Bytes
pub mod Fields
pub mod FromBits
pub mod FromRecord
pub mod Inverse
pub mod Number
pub mod Width
pub mod Window
