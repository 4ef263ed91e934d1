-- `Ways`: a lookup, one node at a time.
pub mod Ways
