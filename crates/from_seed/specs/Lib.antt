-- `Result`: what deepening makes of a seed and the rows.
pub mod Result
