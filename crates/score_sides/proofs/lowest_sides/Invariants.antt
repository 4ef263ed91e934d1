-- `score_sides::lowest_sides` meets its contract: the lowest of the lanes passed. Assumes nothing.
use mathlib.Core.Path.{◌≡◌}
use Prim.Native.Nat.{◌≤◌}
use lib.ListN.{length, drop}
use Rattle.std.specs.Iterator.Adapters.{zip_first, zip_second}
use Rattle.std.specs.Slice.Iter.{iter_rest}
use Rattle.score_sides.specs.Lowest.{costs_at, lowest_to}
use Rattle.score_sides.proofs.lowest_sides.Given as goal

abbrev pub invariant-loop-lane : goal.invariant-loop-lane
invariant-loop-lane l =
    (goal.iterator-loop-lane).can_next l.lane-iterator ×
    (goal.iterator-loop-lane).is_finite l.lane-iterator ×
    (length l.yielded ≤ length l.counts.windows.lanes.now) ×
    (iter_rest (zip_first l.lane-iterator) ≡ drop (length l.yielded) l.counts.windows.lanes.now) ×
    (iter_rest (zip_second l.lane-iterator) ≡ drop (length l.yielded) l.counts.extras.now) ×
    (l.best ≡ lowest_to (costs_at l.bin l.counts.node.hist.now l.counts.node.alphabet l.counts.windows.lanes.now l.side_logs l.counts.logs.now) (length l.yielded))
