-- `Tied`: the contracts themselves. `Numbered`: the numbers of refusals. `Ran`: an accepted run is the model's operation. `Demand1`, `Demand2`, `Demand3`, `Laws`, `Symbols`, `Depths`, `Taken`: the promises of runs, from the model's laws and the contracts.
pub mod Tied
pub mod Numbered
pub mod Ran
pub mod Demand1
pub mod Demand2
pub mod Demand3
pub mod Laws
pub mod Symbols
pub mod Depths
pub mod Taken
