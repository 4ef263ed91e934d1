-- `Order`: the order of keys is that of values. `InOrder`, `Distinct`: lists in order, and without repeats. `Turns`: loops over a list's front. `KeepLaws`: what passes a test.
-- `WalkLaws`, `MarkLaws`: by marks. `DigitLaws`, `PlaceLaws`: by digits. `SortLaws`: by comparison. `RepeatLaws`: repeats dropped.
pub mod Order
pub mod InOrder
pub mod Distinct
pub mod Turns
pub mod WalkLaws
pub mod MarkLaws
pub mod KeepLaws
pub mod DigitLaws
pub mod PlaceLaws
pub mod SortLaws
pub mod RepeatLaws
