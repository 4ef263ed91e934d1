-- `score::score_at` meets its contract: by the sizes of the sides. Assumes nothing.
use native.Mathlib.Omega.{arith}
use mir.Syntax.{w32}
use mir.ValLaws.{to_z-of_z}
use Rattle.score.proofs.Scores.{at_no_le, at_no_gt, at_both}
use Rattle.score.proofs.score_at.Goals as goal

pub returns-then-size-eq0 : goal.returns-then-size-eq0
returns-then-size-eq0 c = at_no_le _ _ _ _ _ _ _ c.rows_in-size.result c.rows_in-size.ensures c.if-size-eq0.true

pub returns-then-size-total : goal.returns-then-size-total
returns-then-size-total c = at_no_gt _ _ _ _ _ _ _ c.rows_in-size.result c.rows_in-size.ensures c.if-size-eq0.false c.if-size-total.true

pub lowest_sides-sides-requires : goal.lowest_sides-sides-requires
lowest_sides-sides-requires c = c.requires.ready

pub returns : goal.returns
returns c = rw (to_z-of_z w32 c.args.cand c.ranges.cand)
    (at_both _ _ _ _ _ _ _ c.rows_in-size.result c.rows_in-size.ensures c.if-size-eq0.false c.if-size-total.false (omega (arith, c.requires, c.rows_in-size.ensures)) c.requires.reach c.lowest_sides-sides.result c.lowest_sides-sides.ensures)
