-- `Moves`: the entries in the new order.
pub mod Moves
