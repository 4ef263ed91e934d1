-- What the partition's two parts hold. Assumes nothing.
use mathlib.Core.Path.{◌≡◌, refl, sym, ◌∙◌}
use Prim.Native.Nat.{ℕ, zero, suc, ◌+◌, ◌≤◌}
use native.Mathlib.Nat.{le_of_suc-le-suc, le_refl, not-suc-le-zero}
use native.Mathlib.Omega.{arith}
use mathlib.Core.Bool.{Bool, true, not, ◌&&◌}
use mathlib.Core.List.{List, [], ◌∷◌}
use lib.ListN.{length, length-append}
use Rattle.model.specs.Lists.{count_if}
use Rattle.model.specs.Partition.{last_first, parts, above_rows, other_rows}
use Rattle.model.proofs.Counting.{count_ext, count_append, count-last_first, length-last_first, count-all}

and_true : (b : Bool) → (b && true) ≡ b
and_true b = grind arith

module _ {ℓ} {A : Type ℓ} (above : A → Bool) where
  parts-above : (p : A → Bool) (fuel : ℕ) (xs : List A) → length xs ≤ fuel → count_if p (parts above fuel xs).0 ≡ count_if (λ (x : A). above x && p x) xs
  unfolding parts
  parts-above p zero [] h = refl
  parts-above p zero (x ∷ xs) h = absurd (not-suc-le-zero h)
  parts-above p (suc fuel) [] h = refl
  parts-above p (suc fuel) (x ∷ xs) h = search (arith, count-last_first, parts-above p fuel xs (le_of_suc-le-suc h), parts-above p fuel (last_first xs) (rw length-last_first (le_of_suc-le-suc h)))

  parts-others : (p : A → Bool) (fuel : ℕ) (xs : List A) → length xs ≤ fuel → count_if p (parts above fuel xs).1 ≡ count_if (λ (x : A). not (above x) && p x) xs
  unfolding parts
  parts-others p zero [] h = refl
  parts-others p zero (x ∷ xs) h = absurd (not-suc-le-zero h)
  parts-others p (suc fuel) [] h = refl
  parts-others p (suc fuel) (x ∷ xs) h = search (arith, count-last_first, count_append, parts-others p fuel xs (le_of_suc-le-suc h), parts-others p fuel (last_first xs) (rw length-last_first (le_of_suc-le-suc h)))

  parts-length : (fuel : ℕ) (xs : List A) → length (parts above fuel xs).0 + length (parts above fuel xs).1 ≡ length xs
  unfolding parts
  parts-length zero xs = omega arith
  parts-length (suc fuel) [] = refl
  parts-length (suc fuel) (x ∷ xs) = search (arith, length-last_first, length-append, parts-length fuel xs, parts-length fuel (last_first xs))

  pub count-above : (p : A → Bool) (xs : List A) → count_if p (above_rows above xs) ≡ count_if (λ (x : A). above x && p x) xs
  unfolding above_rows
  count-above p xs = parts-above p (length xs) xs (le_refl (length xs))

  pub count-others : (p : A → Bool) (xs : List A) → count_if p (other_rows above xs) ≡ count_if (λ (x : A). not (above x) && p x) xs
  unfolding other_rows
  count-others p xs = parts-others p (length xs) xs (le_refl (length xs))

  pub length-parts : (xs : List A) → length (above_rows above xs) + length (other_rows above xs) ≡ length xs
  unfolding above_rows other_rows
  length-parts xs = parts-length (length xs) xs

  -- the others are those that fail the test
  pub length-others : (xs : List A) → length (other_rows above xs) ≡ count_if (λ (x : A). not (above x)) xs
  length-others xs = sym (count-all (λ (x : A). true) (other_rows above xs) (λ x. refl)) ∙ count-others (λ (x : A). true) xs ∙ count_ext xs (λ x. and_true (not (above x)))
