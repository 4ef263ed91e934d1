-- `contexts::number_leaves` meets its contract. The invariant: the first nodes of the order have their contexts. Assumes nothing.
use Rattle.contexts.proofs.Numbering.{Numbered}
use Rattle.contexts.proofs.number_leaves.Given as goal

abbrev pub invariant-loop-i : goal.invariant-loop-i
invariant-loop-i l = Numbered l.tree l.i-items l.i-index l.next.0 l.contexts
