-- `Records`: what the model reads in a node record and in a span record. `Tree`: how a node list and its spans hold a tree that grows. `Lent`: a caller's
-- lists lent together. `Waiting`: how three lists hold the queue of waiting leaves. `Values`: what the values that pass between the learner's parts say.
pub mod Values
pub mod Records
pub mod Tree
pub mod Lent
pub mod Waiting
