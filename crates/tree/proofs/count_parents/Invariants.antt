-- `tree::count_parents` meets its contract. The invariant: of the nodes passed, each node's count says of how many it is a child, and how often it is
-- misplaced. Assumes nothing.
use Rattle.std.proofs.Common.{◌≡◌, length, take}
use Rattle.tree.specs.Trees.{CountsParents}
use Rattle.tree.proofs.count_parents.Given as goal

abbrev pub invariant-loop-i : goal.invariant-loop-i
invariant-loop-i l = (length l.parents ≡ length l.tree) × CountsParents l.tree (take l.i l.tree) l.parents
