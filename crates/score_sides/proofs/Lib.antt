-- `Sweeps`: sweeps over a window's counts. `Lowest`: turns over the side predictors.
pub mod Sweeps
pub mod Lowest
