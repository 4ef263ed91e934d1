-- `FromSeed`: growth from a planted seed.
pub mod FromSeed
