pub mod Accepted
pub mod Flat
pub mod Follows
pub mod Grown
pub mod Nodes
pub mod RowAt
pub mod Rows
pub mod Tied
