-- `Walking`: the walk with a stack finds the preorder.
pub mod Walking
