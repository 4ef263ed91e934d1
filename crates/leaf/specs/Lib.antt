-- `Made`: what a new leaf is.
pub mod Made
