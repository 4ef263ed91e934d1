-- `Windows`: the windows of the side predictors, packed one after the other.
pub mod Windows
