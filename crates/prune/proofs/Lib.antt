-- For callers: `Front`, lists that hold a tree and vacated entries hold the tree.
-- For the functions here. `Pricing`: the pass from the last node back. `Held`: one tree held over another.
-- `Bridge`: the passes over lists that hold a tree.
pub mod Pricing
pub mod Held
pub mod Bridge
pub mod Front
