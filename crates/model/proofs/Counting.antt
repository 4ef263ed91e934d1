-- Laws of `count_if`. Assumes nothing.
use mathlib.Core.Path.{◌≡◌, refl, sym, ap, ◌∙◌, fun_ext}
use Prim.Native.Nat.{ℕ, zero, suc, ◌+◌, ◌≤◌, ◌<◌}
use native.Mathlib.Nat.{zero-add, lt_irrefl}
use native.Mathlib.Omega.{arith}
use mathlib.Core.Bool.{Bool, true, false, cond, not, ◌&&◌}
use mathlib.Core.List.{List, [], ◌∷◌, ◌++◌, map}
use lib.ListN.{length, get_or, set}
use lib.Dec.{ltb, eqb}
use Rattle.model.specs.Lists.{count_if, keep}
use Rattle.model.specs.Partition.{second, last_first}

below_or_at : (m i : ℕ) → cond (ltb m (suc i)) 1 0 ≡ cond (ltb m i) 1 0 + cond (eqb m i) 1 0
below_or_at m i = search arith

module _ {ℓ} {A : Type ℓ} where
  pub count_ext : {p q : A → Bool} (xs : List A) → ((x : A) → p x ≡ q x) → count_if p xs ≡ count_if q xs
  count_ext xs h = ap (λ (f : A → Bool). count_if f xs) (fun_ext h)

  pub count_append : (p : A → Bool) (xs ys : List A) → count_if p (xs ++ ys) ≡ count_if p xs + count_if p ys
  count_append p [] ys = sym (zero-add (count_if p ys))
  count_append p (x ∷ xs) ys = let ih = count_append p xs ys in omega arith

  count-second : (p : A → Bool) (x : A) (xs : List A) → count_if p (second x xs) ≡ cond (p x) 1 0 + count_if p xs
  count-second p x [] = refl
  count-second p x (y ∷ ys) = omega arith

  pub count-last_first : (p : A → Bool) (xs : List A) → count_if p (last_first xs) ≡ count_if p xs
  count-last_first p [] = refl
  count-last_first p (x ∷ xs) = count-second p x (last_first xs) ∙ ap (λ (n : ℕ). cond (p x) 1 0 + n) (count-last_first p xs)

  length-second : (x : A) (xs : List A) → length (second x xs) ≡ suc (length xs)
  length-second x [] = refl
  length-second x (y ∷ ys) = refl

  pub length-last_first : (xs : List A) → length (last_first xs) ≡ length xs
  length-last_first [] = refl
  length-last_first (x ∷ xs) = length-second x (last_first xs) ∙ ap suc (length-last_first xs)

  pub count-keep : (p q : A → Bool) (xs : List A) → count_if p (keep q xs) ≡ count_if (λ (x : A). q x && p x) xs
  count-keep p q [] = refl
  count-keep p q (x ∷ xs) = search (arith, count-keep p q xs)

  pub length-keep : (p : A → Bool) (xs : List A) → length (keep p xs) ≡ count_if p xs
  length-keep p [] = refl
  length-keep p (x ∷ xs) = search (arith, length-keep p xs)

  pub count_at_most : (p : A → Bool) (xs : List A) → count_if p xs ≤ length xs
  count_at_most p [] = omega arith
  count_at_most p (x ∷ xs) = search (arith, count_at_most p xs)

  pub count_none : (p : A → Bool) (xs : List A) → ((x : A) → p x ≡ false) → count_if p xs ≡ 0
  count_none p [] h = refl
  count_none p (x ∷ xs) h = rw (h x) (let ih = count_none p xs h in omega arith)

  pub count-all : (p : A → Bool) (xs : List A) → ((x : A) → p x ≡ true) → count_if p xs ≡ length xs
  count-all p [] h = refl
  count-all p (x ∷ xs) h = rw (h x) (let ih = count-all p xs h in omega arith)

  -- an element that passes, put out of the count
  pub count_set_out : (p : A → Bool) (xs : List A) (i : ℕ) (x d : A) → i < length xs → p (get_or xs i d) ≡ true → p x ≡ false → suc (count_if p (set xs i x)) ≡ count_if p xs
  count_set_out p [] i x d h t f = absurd (lt_irrefl i (omega arith))
  count_set_out p (y ∷ ys) zero x d h t f = rw (t, f) (omega arith)
  count_set_out p (y ∷ ys) (suc i) x d h t f = let ih = count_set_out p ys i x d (omega arith) t f in omega arith

  -- a number below i + 1 is below i, or i
  pub count-below : (f : A → ℕ) (i : ℕ) (xs : List A) → count_if (λ (x : A). ltb (f x) (suc i)) xs ≡ count_if (λ (x : A). ltb (f x) i) xs + count_if (λ (x : A). eqb (f x) i) xs
  count-below f i [] = refl
  count-below f i (x ∷ xs) = let ih = count-below f i xs in let one = below_or_at (f x) i in omega arith

  -- a test splits a count in two
  pub count-split : (q p : A → Bool) (xs : List A) → count_if (λ (x : A). q x && p x) xs + count_if (λ (x : A). not (q x) && p x) xs ≡ count_if p xs
  count-split q p [] = refl
  count-split q p (x ∷ xs) = search (arith, count-split q p xs)

module _ {ℓ κ} {A : Type ℓ} {B : Type κ} where
  pub count_map : (p : B → Bool) (f : A → B) (xs : List A) → count_if p (map f xs) ≡ count_if (λ (x : A). p (f x)) xs
  count_map p f [] = refl
  count_map p f (x ∷ xs) = ap (λ (n : ℕ). cond (p (f x)) 1 0 + n) (count_map p f xs)
