-- `First`: what symbols begin with. `Reading`: symbols read node by node. `Counting`, `Writing`: the two passes over them. `Refusals`: the answers, case by case.
pub mod First
pub mod Reading
pub mod Counting
pub mod Writing
pub mod Refusals
