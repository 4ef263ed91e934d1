-- `Tallies`: what each cell has. `Lanes`: a row hits one cell of each window. `Binning`: what the cells count of the span's rows. `Rows`: the rows as chunks.
pub mod Tallies
pub mod Lanes
pub mod Binning
pub mod Rows
