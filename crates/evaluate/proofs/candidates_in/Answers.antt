-- `evaluate::candidates_in` meets its contract: the flags come back. Assumes nothing.
use native.Mathlib.Omega.{arith}
use Prim.Native.Nat.{◌≤◌}
use borrow.Author.Rules.{rules}
use lib.ListN.{length, length-take}
use Rattle.evaluate.proofs.Rooms.{front-back}
use Rattle.evaluate.proofs.candidates_in.Goals as goal

pub slice_bounds-flags-end : goal.slice_bounds-flags-end
slice_bounds-flags-end c = omega (arith, c.requires.blank.long, length-take 4096 c.args.counts.now)

pub slice_bounds-flags-end-2 : goal.slice_bounds-flags-end-2
slice_bounds-flags-end-2 c = let there : 4096 ≤ length c.args.counts.now = omega (arith, c.requires.blank.long, length-take 4096 c.args.counts.now) in search rules

pub returns-clause-zeros : goal.returns-clause-zeros
returns-clause-zeros c = front-back 4096 c.args.counts.now c.pick_candidates.new.flags c.pick_candidates.ensures.zeros
