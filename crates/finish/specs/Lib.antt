-- `Finished`: what pruning and settling make of a grown tree, and what they ask for.
pub mod Finished
