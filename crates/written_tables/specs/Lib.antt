pub mod RowAt
pub mod Nodes
pub mod Tied
pub mod Rows
pub mod Accepted
pub mod Grown
