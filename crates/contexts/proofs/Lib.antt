-- `Numbering`: the contexts given along the breadth-first order. `Refusals`: the answer, case by case.
pub mod Numbering
pub mod Refusals
