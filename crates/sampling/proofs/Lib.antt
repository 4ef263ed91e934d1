-- `Picked`: the loop that picks rows.
pub mod Picked
