-- `Walking`: what the queue holds while a breadth-first walk goes on, and at its end.
pub mod Walking
