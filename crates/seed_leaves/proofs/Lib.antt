-- `Planting`: one node planted. `SeedLists`, `Seeding`: the seed in the lists and in the model, node by node. `Walking`: all nodes planted. `Starting`: a planted
-- seed is what growth starts from.
pub mod Planting
pub mod SeedLists
pub mod Seeding
pub mod Walking
pub mod Starting
