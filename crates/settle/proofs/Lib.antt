-- `Settling`: the mode steps on the leaves' spans.
pub mod Settling
