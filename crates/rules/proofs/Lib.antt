pub mod Samples
pub mod ArchiveSamples
pub mod CladeSamples
pub mod TextSamples
