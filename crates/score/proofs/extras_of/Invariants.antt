-- `score::extras_of` meets its contract: the predictors passed have their extra bits. Assumes nothing.
use Rattle.std.proofs.Common.{◌≡◌, take}
use Rattle.score.specs.Scored.{extras_in}
use Rattle.score.proofs.extras_of.Given as goal

abbrev pub invariant-loop-lane : goal.invariant-loop-lane
invariant-loop-lane l = l.extras.items ≡ extras_in l.node.hist.now l.node.alphabet (take l.lane-index l.lanes)
