-- `Parting` and `Dividing`: the rows of a split. `Choosing`: the leaf that is split. `Stepping`: one split of the code is one step of
-- the model; `Coding`: the same in the code's words. `Growth`: the loop.
pub mod Parting
pub mod Dividing
pub mod Choosing
pub mod Stepping
pub mod Coding
pub mod Growth
