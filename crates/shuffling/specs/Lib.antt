pub mod NewLabels
