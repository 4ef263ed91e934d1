-- `score_windows::set_windows` meets its contract: the windows passed are packed. Assumes nothing.
use Rattle.std.proofs.Common.{◌≡◌}
use Rattle.score_windows.specs.Windows.{window_start}
use Rattle.score_windows.proofs.Windowing.{packed_lanes}
use Rattle.score_windows.proofs.set_windows.Given as goal

abbrev pub invariant-loop-pred : goal.invariant-loop-pred
invariant-loop-pred l = (l.lanes.items ≡ packed_lanes l.hist l.alphabet l.preds l.pred-index) × (l.stride ≡ window_start l.hist l.alphabet l.preds l.pred-index)
