-- `Queue`: one turn of a breadth-first walk on the lists.
pub mod Queue
