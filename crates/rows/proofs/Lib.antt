-- For callers: `Cells` reads rows and cells, `Shapes` carries sizes and loans on, `Stored` stores a row, `Whole` goes from the rows back to
-- the lists, `Sides` says what a partition leaves on either side.
-- For the functions here: `Copies`, `Parting`, `Turns`.
pub mod Cells
pub mod Shapes
pub mod Stored
pub mod Whole
pub mod Copies
pub mod Parting
pub mod Turns
pub mod Sides
