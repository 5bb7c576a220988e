pub mod Signs
pub mod Output
