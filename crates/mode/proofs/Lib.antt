-- `Turns`: a loop's turn over a span. `Above`: whole numbers above another. `Spread`: a span's residuals, from the lowest to the highest.
-- `Within`: a span's tokens as a part of the list. `Tallies`: what the count space holds. `Modes`: the mode, as it is found. `Stepped`: the mode step on the flat lists is that on the rows.
mod Turns
mod Within
mod Above
mod Spread
mod Tallies
mod Modes
pub mod Stepped
