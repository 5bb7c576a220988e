pub mod FromTable
pub mod ToTable
