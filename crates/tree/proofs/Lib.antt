-- `Lists`: tests, and lists whose entries are a function of their place. `Entries`: what is read of the records. `Soundness`: what the records of a
-- sound tree say. `Ways`, `Routes`: lookups, step by step and row by row. `Passing`: a sound tree known at one pass. `Parents`, `Faults`: the lowest node at
-- fault.
pub mod Lists
pub mod Entries
pub mod Soundness
pub mod Ways
pub mod Routes
pub mod Passing
pub mod Parents
pub mod Faults
