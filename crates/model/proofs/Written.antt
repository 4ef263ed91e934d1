-- A lent list whose first entries are written over. Assumes nothing.
use mathlib.Core.Path.{◌≡◌, refl, sym, ap, ◌∙◌}
use Prim.Native.Nat.{ℕ, suc, ◌+◌, ◌-◌, ◌≤◌, ◌<◌}
use native.Mathlib.Omega.{arith}
use mathlib.Core.List.{List, [], ◌∷◌, ◌++◌}
use lib.ListN.{length, get_or, take, drop, set, length-append, length-drop, length-set, get_or-append}
use lib.Seq.{take-append-le, set-append_left, get_or-append-add, get_or-drop}
use Rattle.model.specs.Lists.{written_over}

module _ {A : Type 0} where
  -- as long as before, if it has room
  pub length-written : (new lent : List A) → length new ≤ length lent → length (written_over new lent) ≡ length lent
  length-written new lent h = omega (arith, length-append new (drop (length new) lent), length-drop (length new) lent)

  -- the entries written
  pub take-written : (new lent : List A) (n : ℕ) → n ≤ length new → take n (written_over new lent) ≡ take n new
  take-written new lent n h = take-append-le n new (drop (length new) lent) h

  pub get_d_written : (new lent : List A) (z : A) (i : ℕ) → i < length new → get_or (written_over new lent) i z ≡ get_or new i z
  get_d_written new lent z i h = get_or-append new (drop (length new) lent) z i h

  -- those past them are unchanged
  pub get_d_unwritten : (new lent : List A) (z : A) (i : ℕ) → length new ≤ i → get_or (written_over new lent) i z ≡ get_or lent i z
  get_d_unwritten new lent z i h =
      let there : i ≡ length new + (i - length new) = omega arith in
      ap (λ (k : ℕ). get_or (written_over new lent) k z) there
      ∙ get_or-append-add new (drop (length new) lent) (i - length new) z
      ∙ get_or-drop (length new) lent (i - length new) z
      ∙ ap (λ (k : ℕ). get_or lent k z) (sym there)

  -- two entries more
  two-more : (new lent : List A) (g m : A) → suc (length new) < length lent
      → written_over (new ++ (g ∷ m ∷ [])) lent ≡ set (set (written_over new lent) (length new) g) (suc (length new)) m
  two-more [] [] g m h = absurd (omega arith)
  two-more [] (a ∷ []) g m h = absurd (omega arith)
  two-more [] (a ∷ b ∷ lent) g m h = refl
  two-more (n ∷ new) [] g m h = absurd (omega arith)
  two-more (n ∷ new) (a ∷ lent) g m h = ap (λ (l : List A). n ∷ l) (two-more new lent g m (omega arith))

  pub written-more : (new lent : List A) (n : ℕ) (g m : A) → n ≡ length new → suc n < length lent
      → written_over (new ++ (g ∷ m ∷ [])) lent ≡ set (set (written_over new lent) n g) (suc n) m
  written-more new lent n g m e room = rw e (two-more new lent g m (omega arith))

  -- one entry changed, and two more
  pub written-split : (new lent : List A) (n i : ℕ) (x g m : A) → n ≡ length new → i < n → suc n < length lent
      → written_over (set new i x ++ (g ∷ m ∷ [])) lent ≡ set (set (set (written_over new lent) i x) n g) (suc n) m
  written-split new lent n i x g m e h room = search (arith, written-more, length-set, set-append_left)
