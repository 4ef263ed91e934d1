-- `score_bins::scan_row` meets its contract: the side predictors passed are counted. Assumes nothing.
use mathlib.Core.Path.{sym}
use Rattle.cost.proofs.Blocks.{tallied-none}
use Rattle.score_bins.proofs.Tallies.{token-fits, token-counted}
use Rattle.score_bins.proofs.scan_row.Goals as goal

pub loop-lane-init : goal.loop-lane-init
loop-lane-init c = sym (tallied-none _ _)

pub count_token-requires : goal.count_token-requires
count_token-requires c = token-fits _ _ _ c.args.cells.now c.loop-lane.cells c.loop-lane.lane-index c.loop-lane.invariant c.requires.in_lanes c.requires.low c.loop-lane-test.true

pub loop-lane-preserved : goal.loop-lane-preserved
loop-lane-preserved c = token-counted _ _ _ c.args.cells.now c.loop-lane.cells c.loop-lane.lane-index c.loop-lane.invariant _ c.count_token.ensures
