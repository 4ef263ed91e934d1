-- `mode::tally` meets its contract: what was counted and what is left are the whole. Assumes nothing.
use native.Mathlib.Omega.{arith}
use lib.IntN.{pos}
use lib.ListN.{get_or, length-set}
use mir.Syntax.{w32}
use mir.ValLaws.{to_z-of_z}
use Rattle.folds.specs.Counts.{tallied}
use Rattle.mode.proofs.Turns.{left-more, left-done}
use Rattle.mode.proofs.Tallies.{countable-more}
use Rattle.mode.proofs.tally.Goals as goal

pub loop-value-preserved : goal.loop-value-preserved
unfolding tallied
loop-value-preserved c =
    let v = get_or c.args.res.now c.loop-value.value-index (pos 0) in
    let at = rw (to_z-of_z w32 v (record { sfits = c.value-1.given })) at c.offset.ensures in
    let turn = left-more c.args.res.now c.loop-value.value-index c.loop-value-test.true in
    let left = rw turn at c.loop-value.invariant.1 in
    (simp length-set c.loop-value.invariant.0, rw at (countable-more left), rw at (rw turn at c.loop-value.invariant.2))

pub returns : goal.returns
unfolding tallied
returns c =
    let done = left-done c.args.res.now c.loop-value.value-index (omega arith) in
    rw (done, to_z-of_z w32 c.args.low c.ranges.low) at c.loop-value.invariant.2
