-- `settle::settle_leaves` meets its contract: what is left to settle is what all nodes ask. Assumes nothing.
use mathlib.Core.Path.{◌≡◌}
use lib.ListN.{take}
use Rattle.std.specs.Iterator.Adapters.{zip_first, zip_second}
use Rattle.std.specs.Slice.Iter.{iter_rest}
use Rattle.rows.specs.Lent.{flat_with, SameTokensLent}
use Rattle.settle.proofs.Settling.{Left}
use Rattle.settle.proofs.settle_leaves.Given as goal

abbrev pub invariant-loop-node : goal.invariant-loop-node
invariant-loop-node l =
    (goal.iterator-loop-node).can_next l.node-iterator ×
    (goal.iterator-loop-node).is_finite l.node-iterator ×
    SameTokensLent l.initial.rows l.rows ×
    (l.counts ≡ l.initial.counts) ×
    Left (take l.count l.nodes) (take l.count l.spans) (flat_with l.initial.rows)
    (iter_rest (zip_first l.node-iterator)) (iter_rest (zip_second l.node-iterator)) (flat_with l.rows) l.counts
