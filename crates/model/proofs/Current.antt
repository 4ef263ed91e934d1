-- What a leaf offers: from its evaluation to its split, and at exit if it is never split, it is what its rows offer as they stand. Assumes nothing.
use mathlib.Core.Path.{◌≡◌}
use mathlib.Core.Logic.{inl, inr}
use Prim.Native.Nat.{ℕ, zero, suc}
use native.Mathlib.Nat.{lt_irrefl}
use native.Mathlib.Omega.{arith}
use mathlib.Core.Bool.{Bool}
use mathlib.Core.List.{List}
use lib.ListN.{length}
use lib.Seq.{take_all}
use Rattle.model.specs.Meter.{Meter}
use Rattle.model.specs.Rows.{Row, within}
use Rattle.model.specs.Mode.{fresh}
use Rattle.model.specs.Job.{Job}
use Rattle.model.specs.Grow.{State, leaf_over, step, steps}
use Rattle.model.specs.Learn.{root_state}
use Rattle.model.specs.Kept.{Invariant, Current}
use Rattle.model.proofs.Fresh.{length-fresh}
use Rattle.model.proofs.Invariant.{split_current}
use Rattle.model.proofs.Steps.{step_is, steps-keep}

module _ {M : Meter} (j : Job M) where
  pub root-current : (rows : List Row) → Current j (root_state j rows)
  unfolding root_state leaf_over
  root-current rows = record { offers = elim [ zero ↦ λ h lf. rw whole | suc k ↦ λ h. absurd (lt_irrefl 0 (omega arith)) ] }
    where
      fr : List Row
      fr = fresh j.uses rows

      whole : within (record { first = 0; end = length rows }) fr ≡ fr
      whole = take_all (length rows) fr (omega (arith, length-fresh j.uses rows))

  module _ (seeds : ℕ → Bool) (given : List Row) where
    step-current : (s : State M) → Invariant j.uses seeds given s → Current j s → Current j (step j s)
    step-current s inv c = elim (step_is j s) [
      | inl e ↦ rw e c
      | inr one ↦ rw one.result (split_current j seeds given s inv one.number one.inside (inv.offers one.number one.inside one.offer one.waiting) one.offer c)
    ]

    pub steps-current : (n : ℕ) (s : State M) → Invariant j.uses seeds given s → Current j s → Current j (steps j n s)
    unfolding steps
    steps-current zero s inv c = c
    steps-current (suc n) s inv c = step-current (steps j n s) (steps-keep j seeds given n s inv) (steps-current n s inv c)
