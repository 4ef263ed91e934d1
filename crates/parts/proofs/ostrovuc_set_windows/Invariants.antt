-- `parts::ostrovuc_set_windows` meets its contract: the lanes passed are written. Assumes nothing.
use Rattle.std.proofs.Common.{◌≡◌, ℕ, ◌<◌, get_or}
use Rattle.score_windows.specs.Windows.{lane_of}
use Rattle.parts.proofs.ostrovuc_set_windows.Given as goal

abbrev pub invariant-loop-j : goal.invariant-loop-j
invariant-loop-j l =
    ((k : ℕ) → k < l.j → get_or l.firsts k 0 ≡ (lane_of l.lane-items k).first)
    × ((k : ℕ) → k < l.j → get_or l.offs k 0 ≡ (lane_of l.lane-items k).off)
