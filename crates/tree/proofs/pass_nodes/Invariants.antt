-- `tree::pass_nodes` meets its contract. The invariant: what is due of the nodes' children, and what is known of the nodes passed. Assumes nothing.
use Rattle.tree.proofs.Passing.{Walked}
use Rattle.tree.proofs.pass_nodes.Given as goal

abbrev pub invariant-loop-i : goal.invariant-loop-i
invariant-loop-i l = Walked l.tree l.i l.due
