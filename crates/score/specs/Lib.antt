-- `Scored`: what a caller owes, and the score from bins.
pub mod Scored
