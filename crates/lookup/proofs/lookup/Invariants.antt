-- `lookup::lookup` meets its contract: some steps are left at each node, and each leads to a node further down the list. Assumes nothing.
use Rattle.std.proofs.Common.{ℕ, ◌-◌}
use Rattle.lookup.proofs.Looking.{Going}
use Rattle.lookup.proofs.lookup.Given as goal

abbrev pub invariant-loop-node : goal.invariant-loop-node
invariant-loop-node l = (fuel : ℕ) × Going l.nodes l.count l.props fuel l.node.0

abbrev pub decreases-loop-node : goal.decreases-loop-node
decreases-loop-node l = l.count - l.node.0
