-- `Writing` has the laws of text written into a list, `Decimal` those of numbers in decimal, `Words` those of the machine's signed numbers, and `Lines` those of
-- residuals and their lines. `Parts` says that what is listed part by part is the listing of the whole, and `Example` computes 01's example.
mod Writing
mod Decimal
mod Words
mod Lines
pub mod Parts
pub mod Example
