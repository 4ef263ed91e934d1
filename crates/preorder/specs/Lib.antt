-- `Order`: the walk from the root, gt first, with a stack.
pub mod Order
