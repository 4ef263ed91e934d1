-- `mode::commonest` meets its contract: the values are counted, the best place is found, and the places in use are cleared. Assumes nothing.
use mathlib.Core.Path.{◌≡◌, ap, ◌∙◌}
use mathlib.Core.List.{List}
use Prim.Native.Nat.{ℕ, ◌-◌, ◌^◌, ◌<◌}
use native.Mathlib.Omega.{arith}
use lib.Dec.{ltb}
use lib.IntN.{ℤ, pos, ◌+ℤ◌}
use lib.ListN.{length, take}
use lib.Seq.{length-take-le}
use mir.Syntax.{w32}
use mir.Val.{SFits}
use mir.ValLaws.{to_z-of_z, to_z_pos}
use Rattle.folds.specs.Counts.{tallied}
use Rattle.mode.specs.Counted.{offset_of}
use Rattle.folds.specs.First.{is_above, first_greatest}
use Rattle.folds.proofs.Less.{less_nat}
use Rattle.folds.proofs.First.{first_below}
use Rattle.mode.proofs.Above.{fits-between}
use Rattle.mode.proofs.Tallies.{countable, cleared}
use Rattle.mode.proofs.Modes.{first_best, oftenest-counted}
use Rattle.mode.proofs.commonest.Goals as goal
use Rattle.mode.proofs.commonest.Goals.{After-first_greatest-best}

module _ (c : After-first_greatest-best) where
  abbrev low : ℤ
  low = c.args.low

  abbrev counts : List ℕ
  counts = tallied (offset_of low) c.args.res.now c.args.counts.now

  counted : c.tally.new.counts ≡ counts
  counted = rw (to_z-of_z w32 low c.ranges.low) at c.tally.ensures

  abbrev best : ℕ
  best = c.first_greatest-best.result

  in-use : length (take c.args.width counts) ≡ c.args.width
  in-use = let narrow = c.requires.narrow.narrow in let long = c.requires.clear.long in rw (← counted) (length-take-le c.args.width c.tally.new.counts (omega arith))

  best-is : best ≡ first_best (take c.args.width counts) c.args.width
  best-is = rw (counted, in-use) at (c.first_greatest-best.ensures 0 ∙ (λ i. first_greatest (less_nat i) 0 (take c.args.width c.tally.new.counts) (length (take c.args.width c.tally.new.counts))))

  below : best < c.args.width
  below = let some = c.requires.narrow.some in omega (arith, best-is, first_below (is_above ltb 0 (take c.args.width counts)) c.args.width)

  small : best < 2 ^ 31
  small = omega (arith, below, c.requires.narrow.narrow)

  sum : SFits w32 (low +ℤ pos best)
  sum = record { sfits = fits-between low best (c.args.width - 1) (2 ^ 31) (omega (arith, below)) c.ranges.low.sfits c.requires.narrow.top }

pub tally-requires : goal.tally-requires
tally-requires c = let narrow = c.requires.narrow in
    rw (to_z-of_z w32 c.args.low c.ranges.low) (countable c.args.low c.args.width _ _ narrow.near narrow.narrow c.requires.few c.requires.clear)

pub overflow_cast-result : goal.overflow_cast-result
overflow_cast-result c = record { sfits = small (goal.at.overflow_cast-result c).After-first_greatest-best }

pub overflow_add-result : goal.overflow_add-result
overflow_add-result c' =
    let c = (goal.at.overflow_add-result c').After-first_greatest-best in
    rw (to_z-of_z w32 (low c) c.ranges.low, to_z_pos w32 (best c) (small c)) (sum c)

pub returns-clause-answer : goal.returns-clause-answer
returns-clause-answer c' =
    let c = (goal.at.returns-clause-answer c').After-first_greatest-best in
    rw (to_z-of_z w32 (low c) c.ranges.low, to_z_pos w32 (best c) (small c), to_z-of_z w32 (low c +ℤ pos (best c)) (sum c))
    (ap (λ (n : ℕ). low c +ℤ pos n) (best-is c) ∙ oftenest-counted (low c) c.args.width c.args.res.now c.args.counts.now c.requires.narrow.near c.requires.narrow.narrow c.requires.clear)

pub returns-clause-zeros : goal.returns-clause-zeros
returns-clause-zeros c' =
    let c = (goal.at.returns-clause-zeros c').After-first_greatest-best in
    let filled = rw (counted c, in-use c) at c'.fill.ensures.after (λ y e. e) in
    rw (filled, counted c) (cleared (low c) c.args.width c.args.res.now c.args.counts.now c.requires.narrow.near c.requires.narrow.narrow c.requires.clear)
