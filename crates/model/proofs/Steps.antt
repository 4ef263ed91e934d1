-- The waiting leaf that a step chooses, and the invariant over any number of steps. Assumes nothing.
use mathlib.Core.Path.{◌≡◌, refl}
use mathlib.Core.Logic.{◌⊎◌, inl, inr}
use Prim.Native.Nat.{ℕ, zero, suc, ◌≤◌, ◌<◌}
use native.Mathlib.Nat.{le_refl}
use native.Mathlib.Omega.{arith}
use mathlib.Core.Bool.{Bool}
use mathlib.Core.List.{List}
use mathlib.Core.Option.{Option, none, some}
use lib.ListN.{length}
use Rattle.model.specs.Rows.{Row}
use Rattle.model.specs.Meter.{Meter}
use Rattle.model.specs.Job.{Offer, Job}
use Rattle.model.specs.Grow.{Entry, State, Choice, no_choice, chosen, foremost, choice_of, choice, split_at, step_to, step, steps}
use Rattle.model.specs.Kept.{entry_at, Invariant}
use Rattle.model.proofs.Invariant.{split_keeps}

module _ {M : Meter} where
  -- a choice is an entry of the tree that waits
  abbrev pub Waits : List (Entry M) → Choice M → Type 0
  Waits tree no_choice = Unit {0}
  Waits tree (chosen k o) = (k < length tree) × ((entry_at tree k).offer ≡ some o)

  foremost_waits : (j : Job M) (tree : List (Entry M)) (c : Choice M) (i : ℕ) (o : Option (Offer M)) → i < length tree → (entry_at tree i).offer ≡ o → Waits tree c
      → Waits tree (foremost j tree c i o)
  foremost_waits j tree c i none h e w = w
  foremost_waits j tree no_choice i (some o) h e w = (h, e)
  foremost_waits j tree (chosen k p) i (some o) h e w = grind arith

  choice_waits : (j : Job M) (tree : List (Entry M)) (n : ℕ) → n ≤ length tree → Waits tree (choice_of j tree n)
  unfolding choice_of
  choice_waits j tree zero h = tt
  choice_waits j tree (suc n) h = foremost_waits j tree (choice_of j tree n) n (entry_at tree n).offer h refl (choice_waits j tree n (omega arith))

  pub waits : (j : Job M) (tree : List (Entry M)) → Waits tree (choice j tree)
  waits j tree = choice_waits j tree (length tree) (le_refl (length tree))

  -- a step either finds no waiting leaf and changes nothing, or splits one
  pub record OneSplit (j : Job M) (s t : State M) : Type 0 where
    pub number : ℕ
    pub offer : Offer M
    pub inside : number < length s.tree
    pub waiting : (entry_at s.tree number).offer ≡ some offer
    pub result : t ≡ split_at j s number offer

  pub step_is : (j : Job M) (s : State M) → (step j s ≡ s) ⊎ OneSplit j s (step j s)
  unfolding step step_to
  step_is j s = go (choice j s.tree) (waits j s.tree)
    where
      go : (c : Choice M) → Waits s.tree c → (step_to j s c ≡ s) ⊎ OneSplit j s (step_to j s c)
      go no_choice w = inl refl
      go (chosen i o) w = inr (record { number = i; offer = o; inside = w.0; waiting = w.1; result = refl })

  module _ (j : Job M) (seeds : ℕ → Bool) (given : List Row) where
    pub step_keeps : (s : State M) → Invariant j.uses seeds given s → Invariant j.uses seeds given (step j s)
    step_keeps s inv = elim (step_is j s) [
      | inl e ↦ rw e inv
      | inr one ↦ rw one.result (split_keeps j seeds given s inv one.number one.inside (inv.offers one.number one.inside one.offer one.waiting) one.offer)
    ]

    pub steps-keep : (n : ℕ) (s : State M) → Invariant j.uses seeds given s → Invariant j.uses seeds given (steps j n s)
    unfolding steps
    steps-keep zero s inv = inv
    steps-keep (suc n) s inv = step_keeps (steps j n s) (steps-keep n s inv)
