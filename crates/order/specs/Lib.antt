pub mod Order
pub mod Places
pub mod Space
pub mod Leaves
