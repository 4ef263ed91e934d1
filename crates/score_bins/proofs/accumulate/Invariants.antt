-- `score_bins::accumulate` meets its contract: the cells passed have their sums. Assumes nothing.
use mathlib.Core.Path.{◌≡◌}
use Prim.Native.Nat.{◌-◌}
use lib.ListN.{length}
use Rattle.score_bins.specs.Bins.{summed}
use Rattle.score_bins.proofs.accumulate.Given as goal

abbrev pub invariant-loop-i : goal.invariant-loop-i
invariant-loop-i l = (l.i-end ≡ length l.initial.cells) × (l.cells ≡ summed l.stride (l.i - l.stride) l.initial.cells) × (length l.cells ≡ length l.initial.cells)

abbrev pub decreases-loop-i : goal.decreases-loop-i
decreases-loop-i l = l.i-end - l.i
