-- `Tied`: each contract asks nothing and says the relation that the promises are drawn from. `Demand1`, `Demand2`, `Demand3`: the demands, said of runs of the public operations. `Laws`: three
-- laws more. `Symbols`: a tree as JPEG XL symbols, written, read and written back. `Depths`: stored depths are distances from the root.
-- `Taken`: which leaf is split next.
pub mod Tied
pub mod Demand1
pub mod Demand2
pub mod Demand3
pub mod Laws
pub mod Symbols
pub mod Depths
pub mod Taken
