-- `Answers`: what the parts' answers stand for. `Windows`: the windows of side predictors as lists of numbers.
-- `Scored`: what scoring over these asks.
pub mod Answers
pub mod Windows
pub mod Scored
