-- `Counted`: what is counted.
pub mod Counted
