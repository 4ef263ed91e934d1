-- `Blocks`: cells of a row in one flat list. `Flat`: the three lent lists as one value. `Lent`: the caller's lists. `Cells`: one row of them. `Parted`: what a partition leaves.
pub mod Blocks
pub mod Flat
pub mod Lent
pub mod Cells
pub mod Parted
