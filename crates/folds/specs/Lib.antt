-- `First`: the first place that none goes before, and the first with the greatest entry. `Range`: the lowest and the highest entry. `Sums`: the sum of the cells before each. `Counts`: cells that count by place.
pub mod First
pub mod Range
pub mod Sums
pub mod Counts
