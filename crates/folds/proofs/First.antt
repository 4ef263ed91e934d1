-- The first place that no other goes before. Assumes nothing.
use mathlib.Core.Path.{◌≡◌, refl}
use mathlib.Core.Bool.{Bool, true, false, cond}
use Prim.Native.Nat.{ℕ, zero, suc, ◌+◌, ◌-◌, ◌≤◌, ◌<◌}
use native.Mathlib.Numerals.{add-one}
use native.Mathlib.Omega.{arith}
use Rattle.folds.specs.First.{first_place}

cond_below : (b : Bool) (m k n : ℕ) → m ≤ n → k ≤ n → cond b m k ≤ n
cond_below true m k n h j = h
cond_below false m k n h j = j

module _ (before : ℕ → ℕ → Bool) where
  pub first_none : 0 ≡ first_place before 0
  unfolding first_place
  first_none = refl

  -- a place more
  pub first_more : (k b r : ℕ) → b ≡ first_place before k → r ≡ cond (before k b) k b → r ≡ first_place before (k + 1)
  unfolding first_place
  first_more k b r e h = rw (add-one, ← e, h)

  pub first_below : (n : ℕ) → first_place before n ≤ n - 1
  unfolding first_place
  first_below zero = omega arith
  first_below (suc n) = let h = first_below n in cond_below (before n (first_place before n)) n (first_place before n) (suc n - 1) (omega arith) (omega arith)

  pub first_one : first_place before 1 ≡ 0
  unfolding first_place
  first_one = same (before 0 0) where
    same : (b : Bool) → cond {A = ℕ} b 0 0 ≡ 0
    same true = refl
    same false = refl

-- of two orders that agree on the places
pub first_same : (before other : ℕ → ℕ → Bool) (n : ℕ) → ((k best : ℕ) → k < n → best < n → before k best ≡ other k best) → first_place before n ≡ first_place other n
unfolding first_place
first_same before other zero e = refl
first_same before other (suc n) e =
    let ih = first_same before other n (λ k b l m. e k b (omega arith) (omega arith)) in
    let low = first_below before n in
    rw (e n (first_place before n) (omega arith) (omega arith), ih)
