-- `Nodes`: the node with which symbols begin, as the code tells and reads it. `Answers`: what the answers say.
pub mod Nodes
pub mod Answers
