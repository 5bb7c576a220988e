pub mod Mark
pub mod Verdict
pub mod Misplaced
