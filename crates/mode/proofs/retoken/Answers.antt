-- `mode::retoken` meets its contract: what was made anew and what is left are the whole. Assumes nothing.
use native.Mathlib.Nat.{add-zero}
use native.Mathlib.Numerals.{add-one}
use native.Mathlib.Omega.{arith}
use lib.IntN.{pos}
use lib.ListN.{get_or, length-set}
use mir.Syntax.{w32}
use mir.ValLaws.{to_z-of_z}
use Rattle.mode.specs.Column.{rezeroed}
use Rattle.mode.proofs.Turns.{left-more, left-done, low-more}
use Rattle.mode.proofs.retoken.Goals as goal

pub loop-i-preserved : goal.loop-i-preserved
unfolding rezeroed
loop-i-preserved c =
    let v = get_or c.args.res.now c.loop-i.i (pos 0) in
    let turn = left-more c.args.res.now c.loop-i.i c.loop-i-test.true in
    let left = rw turn at c.loop-i.invariant.1 in
    let token = rw (to_z-of_z w32 v (record { sfits = c.value-1.given })) at c.zero_token.ensures.0 in (
      simp length-set c.loop-i.invariant.0,
      left.1,
      rw (token, add-zero, add-one) (rw (turn, add-one) at c.loop-i.invariant.2),
      rw add-zero (low-more 0 c.loop-i.i c.zero_token.result c.loop-i.tok (omega arith) c.zero_token.ensures.1 c.loop-i.invariant.3),
    )

pub returns-clause-tokens : goal.returns-clause-tokens
unfolding rezeroed
returns-clause-tokens c =
    let done = left-done c.args.res.now c.loop-i.i (omega arith) in
    rw (done, to_z-of_z w32 c.args.mode c.ranges.mode) at c.loop-i.invariant.2
