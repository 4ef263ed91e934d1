-- `Runs`: what each public operation ensures of a run.
pub mod Runs
