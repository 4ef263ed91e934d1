-- `score_sides::lane_costs` meets its contract: the lane's part of the bin and of the node. Assumes nothing.
use Prim.Native.Nat.{◌+◌, ◌*◌}
use Rattle.score_sides.specs.Lowest.{lane_costs}
use Rattle.score_sides.proofs.Lowest.{width}
use Rattle.score_sides.proofs.lane_costs.Goals as goal

pub returns : goal.returns
unfolding lane_costs
returns c = let lane = c.args.lane in
    rw (width lane.off lane.width, width (lane.pred * c.args.counts.node.alphabet + lane.first) lane.width) at c.window_costs.ensures
