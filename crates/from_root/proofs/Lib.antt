-- `Planting`: the root.
pub mod Planting
