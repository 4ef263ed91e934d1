-- `parts::lanes_in` meets its contract: the entries passed have their lanes. Assumes nothing.
use Rattle.std.proofs.Common.{◌≡◌, map}
use Rattle.model.specs.Lists.{range}
use Rattle.parts.specs.Windows.{lane_in}
use Rattle.parts.proofs.lanes_in.Given as goal

abbrev pub invariant-loop-j : goal.invariant-loop-j
invariant-loop-j l = l.lanes.items ≡ map (lane_in l.preds l.firsts l.offs) (range 0 l.j)
