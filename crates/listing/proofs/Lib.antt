pub mod TwoReads
