-- `Making`: what the mode step and the evaluation of a span ask for and leave.
pub mod Making
