-- `Numbering`: contexts given along an order, one node at a time. `Answers`: what the answer says.
pub mod Numbering
pub mod Answers
