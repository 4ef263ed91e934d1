-- `breadth::walk` meets its contract. The invariant: the places before `head` were visited, and those up to `end` wait.
-- Assumes nothing.
use Rattle.std.proofs.Common.{◌-◌, length}
use Rattle.breadth.proofs.Walking.{Walked}
use Rattle.breadth.proofs.walk.Given as goal

abbrev pub invariant-loop-head : goal.invariant-loop-head
invariant-loop-head l = Walked l.tree l.head l.end l.order

abbrev pub decreases-loop-head : goal.decreases-loop-head
decreases-loop-head l = length l.tree - l.head
