-- `Sampled`: what even sampling answers.
pub mod Sampled
