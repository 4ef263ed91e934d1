-- `score::score_split_plan` meets its contract: the best of the candidates passed. Assumes nothing.
use borrow.Author.Rules.{rules}
use mathlib.Core.Path.{sym}
use Prim.Native.Nat.{◌*◌}
use mir.Syntax.{w32}
use mir.ValLaws.{to_z-of_z}
use lib.IntN.{pos}
use lib.ListN.{get_or}
use Rattle.score_sides.proofs.Lowest.{width}
use Rattle.score.specs.Scored.{score_is, scored_at}
use Rattle.score.proofs.Scores.{scored_to-none, lower-step}
use Rattle.score.proofs.score_split_plan.Goals as goal

pub loop-k-init : goal.loop-k-init
loop-k-init c = sym (scored_to-none _)

pub loop-k-preserved : goal.loop-k-preserved
loop-k-preserved c =
    let k = c.loop-k.k in
    let stride = c.args.counts.windows.stride in
    let own = rw (width (k * stride) stride, to_z-of_z w32 (get_or c.args.cands.now k (pos 0)) (search rules)) at c.score_at.ensures in
    lower-step (scored_at c.args.cells.now c.args.counts.node.hist.now c.args.counts.node.alphabet c.args.counts.windows.lanes.now stride c.args.counts.node.total c.args.cands.now c.args.counts.logs.now)
    k (score_is c.loop-k.best) (score_is c.score_at.result) (score_is c.lower_score-best.result) c.loop-k.invariant own c.lower_score-best.ensures
