pub mod FactOne
pub mod FactTwo
pub mod OneToOne
pub mod Shortened
pub mod TreeOf
