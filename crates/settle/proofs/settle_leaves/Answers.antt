-- `settle::settle_leaves` meets its contract: what is left to settle is what all nodes ask. Assumes nothing.
use mathlib.Core.Path.{◌≡◌, ◌∙◌}
use mathlib.Core.Logic.{inl, inr}
use lib.ListN.{length}
use Rattle.std.specs.Iterator.Adapters.{zip_first}
use Rattle.std.specs.Slice.Iter.{iter_rest}
use Rattle.rows.proofs.Shapes.{tokens-then}
use Rattle.settle.proofs.Settling.{turn, done, settles}
use Rattle.settle.proofs.settle_leaves.Goals as goal

pub loop-node-preserved : goal.loop-node-preserved
loop-node-preserved c =
    let steps = c.in-Some.ensures.steps in
    let inv = c.loop-node.invariant in (
      (tt, tt),
      tt,
      tokens-then inv.2 c.settle_leaf.ensures.lent,
      c.settle_leaf.ensures.zeros ∙ inv.3,
      turn c.in-Some.node.now c.in-Some.span.now steps.0 steps.1 inv.4 c.settle_leaf.ensures.zeros c.settle_leaf.ensures.rows,
    )

-- no node is left
pub returns-clause-settled : goal.returns-clause-settled
returns-clause-settled c =
    let left = c.loop-node.invariant.4 in
    let none : length (iter_rest (zip_first c.loop-node.node-iterator)) ≡ 0 =
    elim c.in-None.ensures.steps [ inl s ↦ s.1.0 | inr s ↦ left.even ∙ s.1.0 ] in
    done left none

pub returns-clause-rows : goal.returns-clause-rows
returns-clause-rows c = λ tree lent holds. settles holds c.requires.room (returns-clause-settled c)
