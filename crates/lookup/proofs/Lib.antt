-- `Looking`: the way of a lookup.
pub mod Looking
