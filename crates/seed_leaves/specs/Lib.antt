-- `Sown`: a seed planted node by node. `Seeded`: what planting a seed asks for and leaves.
pub mod Sown
pub mod Seeded
