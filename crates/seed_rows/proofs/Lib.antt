-- `Seeds`: what a sound seed says. `Ordering`: rows ordered by leaf in the count space.
pub mod Seeds
pub mod Ordering
