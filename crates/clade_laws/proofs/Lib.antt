pub mod Counted
pub mod Entries
pub mod Inner
pub mod Numbers
pub mod Rising
pub mod Totals
pub mod InnerLength
pub mod TableLength
