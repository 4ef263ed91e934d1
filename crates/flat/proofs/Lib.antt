-- `Groups`: the laws of the groups' histograms and sizes. `Flat`: the group of a value, the loop over the rows, and that the costs add up to the model's flat bits.
pub mod Groups
pub mod Flat
