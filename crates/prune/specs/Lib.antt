-- `Prices`: the pass from the last node back. `Held`: lists that hold a tree to be pruned.
pub mod Prices
pub mod Held
