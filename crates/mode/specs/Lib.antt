-- `Each`: what holds of each residual of a span. `Counted`: residuals in the count space. `Column`: the zero predictor's tokens in the flat list.
-- `Lent`: what the lists of a mode step are.
pub mod Each
pub mod Counted
pub mod Column
pub mod Lent
