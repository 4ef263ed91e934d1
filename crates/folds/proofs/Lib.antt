-- `Less`: the kit's comparisons as tests of `<`. `First`: the first place that none goes before. `Lowest`: the lowest and the highest of keys. `Summed`: the sums before each cell. `Chunks`: rows of a flat list gone over by whole chunks.
pub mod Less
pub mod First
pub mod Lowest
pub mod Summed
pub mod Chunks
