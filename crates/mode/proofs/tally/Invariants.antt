-- `mode::tally` meets its contract: what was counted and what is left are the whole. Assumes nothing.
use mathlib.Core.Path.{◌≡◌}
use lib.ListN.{length, drop}
use Rattle.folds.specs.Counts.{tallied}
use Rattle.mode.specs.Counted.{Countable, offset_of}
use Rattle.mode.proofs.tally.Given as goal

abbrev pub invariant-loop-value : goal.invariant-loop-value
invariant-loop-value l =
    (length l.counts ≡ length l.initial.counts)
    × Countable l.low (drop l.value-index l.res) l.counts
    × (tallied (offset_of l.low) (drop l.value-index l.res) l.counts ≡ tallied (offset_of l.low) l.res l.initial.counts)
