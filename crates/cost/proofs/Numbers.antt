-- Lists of numbers: ranges and their elements that pass a test, a function's values at 0, 1, .., and what holds of each number. Assumes nothing.
use mathlib.Core.Path.{◌≡◌, refl, sym, ap, ◌∙◌}
use mathlib.Core.Bool.{Bool, true, false, cond}
use mathlib.Core.List.{List, [], ◌∷◌, ◌++◌, map}
use Prim.Native.Nat.{ℕ, zero, suc, ◌+◌, ◌≤◌, ◌<◌}
use native.Mathlib.Decide.{ℕ_discrete, dec_lt}
use native.Mathlib.Omega.{arith}
use lib.ListN.{length, get_or, length-set, get_or-eq_default}
use lib.Seq.{ext_get_or, get_or-set_same, get_or-set_other}
use Rattle.model.specs.Lists.{range, keep}
use Rattle.model.proofs.Places.{length-each, each_at}
use Rattle.cost.specs.Histograms.{bumped}

pub keep_append : {A : Type 0} (b : A → Bool) (xs ys : List A) → keep b (xs ++ ys) ≡ keep b xs ++ keep b ys
keep_append b [] ys = refl
keep_append {A} b (x ∷ xs) ys = go (b x) (keep_append b xs ys)
  where
    go : (t : Bool) → keep b (xs ++ ys) ≡ keep b xs ++ keep b ys → cond t (x ∷ keep b (xs ++ ys)) (keep b (xs ++ ys)) ≡ cond t (x ∷ keep b xs) (keep b xs) ++ keep b ys
    go true ih = ap (λ (l : List A). x ∷ l) ih
    go false ih = ih

-- ---- a function's values at 0, 1, ..

-- values that are at most m
pub values_low : (f : ℕ → ℕ) (n m : ℕ) → ((i : ℕ) → f i ≤ m) → (i : ℕ) → get_or (map f (range 0 n)) i 0 ≤ m
values_low f n m h i = elim (dec_lt i n) [
  | yes l ↦ rw (each_at f n i 0 l) (h i)
  | no l ↦ rw (get_or-eq_default (map f (range 0 n)) 0 {n = i} (omega (arith, length-each f 0 n))) (omega arith)
]

-- one more at t
pub values-more : (f g : ℕ → ℕ) (n t : ℕ) → t < n → g t ≡ f t + 1 → ((i : ℕ) → (i ≡ t → ⊥) → g i ≡ f i) → bumped t (map f (range 0 n)) ≡ map g (range 0 n)
values-more f g n t h own other =
    ext_get_or 0 (bumped t old) (map g (range 0 n)) (simp length-set (length-each f 0 n ∙ sym (length-each g 0 n))) each
  where
    old : List ℕ
    old = map f (range 0 n)

    each : (i : ℕ) → i < length (bumped t old) → get_or (bumped t old) i 0 ≡ get_or (map g (range 0 n)) i 0
    each i l =
        let long = length-each f 0 n in
        let k : i < n = omega (arith, length-set old t (get_or old t 0 + 1)) in
        rw (each_at g n i 0 k) (elim (ℕ_discrete i t) [
          | yes e ↦ rw (e, get_or-set_same old t (get_or old t 0 + 1) 0 (omega arith), each_at f n t 0 h) (sym own)
          | no ne ↦ rw (get_or-set_other old t i (get_or old t 0 + 1) 0 ne, each_at f n i 0 k) (sym (other i ne))
        ])

-- ---- what holds of each number of a list

abbrev pub Each : (ℕ → Type 0) → List ℕ → Type 0
Each P l = (i : ℕ) → i < length l → P (get_or l i 0)

pub each_cons : (P : ℕ → Type 0) (x : ℕ) (l : List ℕ) → P x → Each P l → Each P (x ∷ l)
each_cons P x l h k zero j = h
each_cons P x l h k (suc i) j = k i (omega arith)

pub each_tail : (P : ℕ → Type 0) (x : ℕ) (l : List ℕ) → Each P (x ∷ l) → Each P l
each_tail P x l k i h = k (suc i) (omega arith)

-- a number of a range that passes the test
abbrev pub Passes : (ℕ → Bool) → ℕ → ℕ → Type 0
Passes may m x = (x < m) × (may x ≡ true)

pub keep-passes : (may : ℕ → Bool) (m p n : ℕ) → p + n ≤ m → Each (Passes may m) (keep may (range p n))
keep-passes may m p zero h = λ i l. absurd (omega arith)
keep-passes may m p (suc n) h = go (may p) refl (keep-passes may m (suc p) n (omega arith))
  where
    go : (b : Bool) → may p ≡ b → Each (Passes may m) (keep may (range (suc p) n)) → Each (Passes may m) (cond b (p ∷ keep may (range (suc p) n)) (keep may (range (suc p) n)))
    go true e ih = each_cons (Passes may m) p (keep may (range (suc p) n)) (omega arith, e) ih
    go false e ih = ih
