-- `Ordered`: a seed's rows in the order of its leaves.
pub mod Ordered
