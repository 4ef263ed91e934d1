-- `Trees`: trees as lists of records.
pub mod Trees
