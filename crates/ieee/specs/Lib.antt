-- Laws of IEEE 754's operations that the logic's library lacks: signs, bounds, the order of finite values, and which sums are -0.
pub mod Sign
pub mod Within
pub mod Zero
pub mod Order
