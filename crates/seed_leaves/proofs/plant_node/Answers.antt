-- `seed_leaves::plant_node` meets its contract: a node without rows is kept, and a leaf with rows is planted. Assumes nothing.
use mathlib.Core.Path.{refl}
use Rattle.seed_leaves.proofs.Planting.{kept-planted, leaf-planted}
use Rattle.seed_leaves.proofs.plant_node.Goals as goal

pub returns-then-is_split-span-clause-planted : goal.returns-then-is_split-span-clause-planted
returns-then-is_split-span-clause-planted c = kept-planted (rw c.is_split.ensures at c.if-is_split-span.true) c.keep_node.ensures.lists

pub returns-clause-planted : goal.returns-clause-planted
returns-clause-planted c = leaf-planted c.plant_leaf.ensures.planted (rw c.is_split.ensures at c.if-is_split-span.false) refl refl
