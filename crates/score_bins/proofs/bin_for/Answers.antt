-- `score_bins::bin_for` meets its contract: the candidates passed, with those that are left, are the whole count. Assumes nothing.
use Rattle.std.proofs.Common.{◌≡◌, ◌+◌, ℕ, Bool, true, false, cond, refl, ap, arith, rules, pos, get_or, drop}
use mir.Syntax.{w32}
use mir.Val.{of_z, to_z, bool_byte}
use mir.ValLaws.{to_z-of_z}
use Rattle.score_bins.specs.Bins.{bin_of}
use Rattle.score_bins.proofs.Binning.{bin-turn, bin-end, bin_of_le}
use Rattle.score_bins.proofs.bin_for.Goals as goal

byte : (b : Bool) → bool_byte b ≡ cond b 1 0
byte true = refl
byte false = refl

-- one candidate further
turn : (c : goal.After-from-bin) → let v = to_z w32 (of_z w32 c.args.v) in
    c.loop-candidate.bin + c.from-bin.result + bin_of (drop (c.loop-candidate.candidate-index + 1) c.args.cands.now) v ≡ bin_of c.args.cands.now v
turn c =
    let one = rw (to_z-of_z w32 (get_or c.args.cands.now c.loop-candidate.candidate-index (pos 0)) (search rules), byte) at c.from-bin.ensures in
    bin-turn c.args.cands.now (to_z w32 (of_z w32 c.args.v)) c.loop-candidate.candidate-index c.loop-candidate.bin _ _ (omega arith) (ap (λ (n : ℕ). c.loop-candidate.bin + n) one) c.loop-candidate.invariant

pub overflow_add-bin : goal.overflow_add-bin
overflow_add-bin c = omega (arith, turn c, bin_of_le c.args.cands.now (to_z w32 (of_z w32 c.args.v)))

pub loop-candidate-preserved : goal.loop-candidate-preserved
loop-candidate-preserved c = turn c

pub returns : goal.returns
returns c = rw (to_z-of_z w32 _ c.ranges.v) at (bin-end _ _ _ _ _ c.loop-candidate-test.false c.loop-candidate.invariant)
