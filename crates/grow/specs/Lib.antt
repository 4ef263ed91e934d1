-- `Grown`: one split to make, and what growth leaves. `Parts`: what the parts of one split leave.
pub mod Parts
pub mod Grown
