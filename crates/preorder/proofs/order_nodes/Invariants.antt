-- `preorder::order_nodes` meets its contract: what was found and what waits on the stack are the preorder. Assumes nothing.
use mathlib.Core.Path.{◌≡◌}
use Prim.Native.Nat.{◌-◌}
use mathlib.Core.List.{List}
use lib.ListN.{length}
use Rattle.model.specs.Tree.{Node}
use Rattle.preorder.specs.Order.{ShowsNodes}
use Rattle.preorder.proofs.Walking.{Walked}
use Rattle.preorder.proofs.order_nodes.Given as goal

abbrev pub invariant-loop-node : goal.invariant-loop-node
invariant-loop-node l = (length l.places ≡ length l.initial.places)
    × ((nodes : List Node) → ShowsNodes nodes l.tree l.splits → Walked nodes l.order.items l.places l.stack.items)

abbrev pub decreases-loop-node : goal.decreases-loop-node
decreases-loop-node l = length l.tree - length l.order.items
