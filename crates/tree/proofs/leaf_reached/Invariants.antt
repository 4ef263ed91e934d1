-- `tree::leaf_reached` meets its contract. The invariant: the node is met on the way. A split leads to a node behind it, so what is left of the
-- list shrinks. Assumes nothing.
use Rattle.std.proofs.Common.{◌-◌, length}
use Rattle.tree.proofs.Ways.{Followed}
use Rattle.tree.proofs.leaf_reached.Given as goal

abbrev pub invariant-loop-node : goal.invariant-loop-node
invariant-loop-node l = Followed l.tree l.props l.node.0

abbrev pub decreases-loop-node : goal.decreases-loop-node
decreases-loop-node l = length l.tree - l.node.0
