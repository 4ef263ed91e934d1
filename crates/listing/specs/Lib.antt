pub mod Text
pub mod Listing
