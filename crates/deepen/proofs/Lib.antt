-- `Seeding`: what the checks ensure of a seed.
pub mod Seeding
