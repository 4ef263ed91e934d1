-- `Groups`: histograms and sizes of the groups. `Flat`: flat bits from counts, and what the functions ask for.
pub mod Groups
pub mod Flat
