-- `Finishing`: pruning and settling on the lists are the model's. `Made`: what was finished is what the
-- operations answer.
pub mod Finishing
pub mod Made
