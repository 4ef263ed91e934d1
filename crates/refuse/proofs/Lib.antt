pub mod Scan
pub mod Ranges
pub mod Answers
pub mod Passed
