-- `Bins`: rows counted by bin and token, and bins summed.
pub mod Bins
