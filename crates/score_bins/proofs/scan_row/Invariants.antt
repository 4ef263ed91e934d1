-- `score_bins::scan_row` meets its contract: the side predictors passed are counted. Assumes nothing.
use Rattle.std.proofs.Common.{◌≡◌}
use Rattle.cost.specs.Histograms.{tallied}
use Rattle.score_bins.specs.Bins.{lane_cell}
use Rattle.score_bins.proofs.scan_row.Given as goal

abbrev pub invariant-loop-lane : goal.invariant-loop-lane
invariant-loop-lane l = l.cells ≡ tallied (lane_cell l.toks l.lanes l.base) l.lane-index l.initial.cells
