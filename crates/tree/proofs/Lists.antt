-- Tests, and lists whose entries are a function of their place. Assumes nothing.
use mathlib.Core.Path.{◌≡◌, refl, ap}
use Prim.Native.Nat.{ℕ, zero, suc, ◌≤◌, ◌<◌}
use native.Mathlib.Nat.{lt_irrefl}
use native.Mathlib.Omega.{arith}
use mathlib.Core.Bool.{false, ◌||◌}
use mathlib.Core.List.{List, ◌∷◌, ◌++◌, map, append-nil}
use lib.ListN.{length, take, drop}
use lib.Seq.{drop-length}
use lib.Dec.{eqb, ltb}
use borrow.Author.Tests.{ltb-false, eqb-false}
use Rattle.model.specs.Lists.{range}
use Rattle.model.proofs.Tests.{neither}

-- ---- tests
-- a count that is neither zero nor beyond n
pub in_range : (count n : ℕ) → (eqb count 0 || ltb n count) ≡ false → (0 < count) × (count ≤ n)
in_range count n e = let p = (neither (eqb count 0) (ltb n count)).0 e in let ne = eqb-false count 0 p.0 in (omega arith, ltb-false n count p.1)

-- neither of two lists is too short
pub both_long : (a m b n : ℕ) → (ltb a m || ltb b n) ≡ false → (m ≤ a) × (n ≤ b)
both_long a m b n e = let p = (neither (ltb a m) (ltb b n)).0 e in (ltb-false a m p.0, ltb-false b n p.1)

-- ---- a list that is a function of the place
module _ {A : Type 0} (f : ℕ → A) where
  pub take-each : (first m n : ℕ) → m ≤ n → take m (map f (range first n)) ≡ map f (range first m)
  take-each first zero n h = refl
  take-each first (suc m) zero h = absurd (lt_irrefl m (omega arith))
  take-each first (suc m) (suc n) h = ap (λ (l : List A). f first ∷ l) (take-each (suc first) m n (omega arith))

  pub each-done : (l : List A) (n : ℕ) → n ≡ length l → map f (range 0 n) ++ drop n l ≡ map f (range 0 (length l))
  each-done l n e = rw (e, drop-length l) (append-nil (map f (range 0 (length l))))
