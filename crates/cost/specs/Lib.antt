pub mod Counted
pub mod Histograms
pub mod Predictors
