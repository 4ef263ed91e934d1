-- `Result`: what learning makes of the rows.
pub mod Result
