-- `Writing`: symbols written into a list, from a place on. `Answers`: what the answer says.
pub mod Writing
pub mod Answers
