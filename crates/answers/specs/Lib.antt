-- `Answers`: document 01's answers as the structs that cross over to C.
pub mod Answers
