-- `Sides`: both sides' costs under one predictor. `Lowest`: the lowest over the side predictors.
pub mod Sides
pub mod Lowest
