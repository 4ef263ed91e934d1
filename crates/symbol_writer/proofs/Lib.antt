-- `Along`: the symbols put along the breadth-first order. `Counted`: how many they are. `Refusals`: the answer, case by case.
pub mod Along
pub mod Counted
pub mod Refusals
