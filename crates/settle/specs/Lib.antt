-- `Leaves`: the mode step on the leaves' spans.
pub mod Leaves
