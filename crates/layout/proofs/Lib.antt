-- `Cells`: entries of equal size end to end in a flat list. `Held`: lists that hold a tree. `Queue`: the queue against the tree, and how it is read.
pub mod Cells
pub mod Held
pub mod Queue
