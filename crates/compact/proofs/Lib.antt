-- `Moving`: entries gathered one after the other, and copied back with blanks behind them.
pub mod Moving
