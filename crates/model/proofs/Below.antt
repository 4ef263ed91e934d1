-- How many rows go below (02, a): from a leaf's evaluation to its split, what it offers says it of the rows of its span as they stand. Assumes nothing.
use mathlib.Core.Path.{◌≡◌, subst}
use mathlib.Core.Logic.{inl, inr}
use Prim.Native.Nat.{ℕ, zero, suc}
use native.Mathlib.Nat.{lt_irrefl}
use native.Mathlib.Omega.{arith}
use mathlib.Core.Bool.{Bool}
use mathlib.Core.List.{List}
use lib.ListN.{length}
use lib.Seq.{take_all}
use Rattle.model.specs.Meter.{Meter}
use Rattle.model.specs.Rows.{Row, within}
use Rattle.model.specs.Mode.{fresh}
use Rattle.model.specs.Job.{Job}
use Rattle.model.specs.Grow.{State, leaf_over, split_at, step}
use Rattle.model.specs.Learn.{root_state}
use Rattle.model.specs.Accepting.{OfferFits}
use Rattle.model.specs.Kept.{Invariant, Weighed}
use Rattle.model.proofs.Fresh.{length-fresh}
use Rattle.model.proofs.Invariant.{split_weighs, split_of}
use Rattle.model.proofs.Steps.{step_is}

module _ {M : Meter} where
  module _ (j : Job M) (fit : (depth : ℕ) (cost : M.Cost) (rows : List Row) → OfferFits rows (j.offered depth cost rows)) where
    pub root-weighed : (rows : List Row) → Weighed (root_state j rows)
    unfolding root_state leaf_over
    root-weighed rows = record { offers = elim [ zero ↦ λ h o q. rw whole (subst (OfferFits fr) q (fit 0 _ fr)).1 | suc k ↦ λ h. absurd (lt_irrefl 0 (omega arith)) ] }
      where
        fr : List Row
        fr = fresh j.uses rows

        whole : within (record { first = 0; end = length rows }) fr ≡ fr
        whole = take_all (length rows) fr (omega (arith, length-fresh j.uses rows))

    module _ (seeds : ℕ → Bool) (given : List Row) where
      pub step-weighed : (s : State M) → Invariant j.uses seeds given s → Weighed s → Weighed (step j s)
      unfolding split_at
      step-weighed s inv w = elim (step_is j s) [
        | inl e ↦ rw e w
        | inr one ↦ (let was = inv.offers one.number one.inside one.offer one.waiting in
            let f = split_of j seeds given s inv one.number one.inside was one.offer in
            rw one.result (record { offers = λ k h. split_weighs j seeds given s inv one.number one.inside was one.offer fit w.offers k (rw f.longer at h) }))
      ]
