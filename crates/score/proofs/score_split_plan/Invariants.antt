-- `score::score_split_plan` meets its contract: the best of the candidates passed. Assumes nothing.
use Rattle.std.proofs.Common.{◌≡◌}
use Rattle.score.specs.Scored.{score_is, scored_at, scored_to}
use Rattle.score.proofs.score_split_plan.Given as goal

abbrev pub invariant-loop-k : goal.invariant-loop-k
invariant-loop-k l = score_is l.best ≡ scored_to (scored_at l.cells l.counts.node.hist.now l.counts.node.alphabet l.counts.windows.lanes.now l.counts.windows.stride l.counts.node.total l.cands l.counts.logs.now) l.k
