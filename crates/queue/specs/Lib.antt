-- `Lent`: the queue's three lists, lent together. `Room`: what a leaf that may wait asks of the queue, and what the cleared queue holds.
pub mod Lent
pub mod Room
