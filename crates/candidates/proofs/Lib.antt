-- `Machine`: keys and values in machine numbers. `ProbeLaws`: probing a column. `QuantileLaws`: values at even steps. `PickLaws`: from the probe to the plan.
-- `CandidateLaws`: what holds of the candidates.
pub mod ProbeLaws
pub mod QuantileLaws
pub mod PickLaws
pub mod CandidateLaws
