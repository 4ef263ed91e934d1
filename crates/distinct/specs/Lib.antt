-- `Keys`: values as keys. `Sorted`: lists in order, and `SortedUnique`. `Marks`: marks of keys. `Digits`: keys by their digits.
pub mod Keys
pub mod Sorted
pub mod Marks
pub mod Digits
