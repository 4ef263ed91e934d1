-- Laws of `keep` and `all`. Assumes nothing.
use mathlib.Core.Path.{◌≡◌, refl}
use Prim.Native.Nat.{ℕ, zero, suc, ◌+◌, ◌≤◌, ◌<◌}
use native.Mathlib.Omega.{arith}
use mathlib.Core.Bool.{Bool, not}
use mathlib.Core.List.{List, [], ◌∷◌}
use lib.ListN.{length, get_or}
use lib.Dec.{T}
use lib.Ieee.Fits.{and_i, and_l, and_r}
use Rattle.model.specs.Lists.{count_if, keep, all}
use Rattle.model.proofs.Counting.{length-keep, count_at_most}

module _ {ℓ} {A : Type ℓ} where
  -- an element passes a test or its opposite
  pub count-not : (p : A → Bool) (xs : List A) → count_if p xs + count_if (λ (x : A). not (p x)) xs ≡ length xs
  count-not p [] = refl
  count-not p (x ∷ xs) = search (arith, count-not p xs)

  pub length_keep_le : (p : A → Bool) (xs : List A) → length (keep p xs) ≤ length xs
  length_keep_le p xs = omega (arith, length-keep p xs, count_at_most p xs)

  -- every element passes
  pub all-at : (p : A → Bool) (xs : List A) (i : ℕ) (z : A) → i < length xs → T (all p xs) → T (p (get_or xs i z))
  all-at p [] i z h t = absurd (omega arith)
  all-at p (x ∷ xs) zero z h t = and_l (p x) (all p xs) t
  all-at p (x ∷ xs) (suc i) z h t = all-at p xs i z (omega arith) (and_r (p x) (all p xs) t)

  pub all-each : (p : A → Bool) (xs : List A) (z : A) → ((i : ℕ) → i < length xs → T (p (get_or xs i z))) → T (all p xs)
  all-each p [] z each = tt
  all-each p (x ∷ xs) z each = and_i (p x) (all p xs) (each 0 (omega arith)) (all-each p xs z (λ i h. each (suc i) (omega arith)))

  -- what every element passes, the kept ones pass
  pub all_keep : (p q : A → Bool) (xs : List A) → T (all p xs) → T (all p (keep q xs))
  all_keep p q [] t = tt
  all_keep p q (x ∷ xs) t = search (arith, all_keep p q xs (and_r (p x) (all p xs) t))

  -- the kept ones pass the test
  pub all-kept : (p : A → Bool) (xs : List A) → T (all p (keep p xs))
  all-kept p [] = tt
  all-kept p (x ∷ xs) = search (arith, all-kept p xs)
