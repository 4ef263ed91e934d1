-- What holds of each element of a list. Assumes nothing.
use Prim.Native.Nat.{ℕ, zero, suc}
use mathlib.Core.List.{List, [], ◌∷◌, ◌++◌, map}
use lib.ListN.{get_or, set, replicate}
use Rattle.model.specs.Lists.{Each}

module _ {A : Type 0} (P : A → Type 0) where
  pub each_get_d : (xs : List A) (i : ℕ) (d : A) → P d → Each P xs → P (get_or xs i d)
  each_get_d [] i d h e = h
  each_get_d (x ∷ xs) zero d h e = e.0
  each_get_d (x ∷ xs) (suc i) d h e = each_get_d xs i d h e.1

  pub each_set : (xs : List A) (i : ℕ) (y : A) → P y → Each P xs → Each P (set xs i y)
  each_set [] i y h e = tt
  each_set (x ∷ xs) zero y h e = (h, e.1)
  each_set (x ∷ xs) (suc i) y h e = (e.0, each_set xs i y h e.1)

  pub each_append : (xs ys : List A) → Each P xs → Each P ys → Each P (xs ++ ys)
  each_append [] ys e f = f
  each_append (x ∷ xs) ys e f = (e.0, each_append xs ys e.1 f)

  pub each-replicate : (n : ℕ) (x : A) → P x → Each P (replicate n x)
  each-replicate zero x h = tt
  each-replicate (suc n) x h = (h, each-replicate n x h)

module _ {A B : Type 0} (P : B → Type 0) (f : A → B) where
  pub each_map : (xs : List A) → ((x : A) → P (f x)) → Each P (map f xs)
  each_map [] h = tt
  each_map (x ∷ xs) h = (h x, each_map xs h)
