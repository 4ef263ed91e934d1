-- The order of the properties: each stands at one place, and a twin before the property that may repeat it. Assumes nothing.
use mathlib.Core.Path.{◌≡◌, refl, sym, ap, ◌∙◌}
use mathlib.Core.Bool.{Bool, true, false, cond, ◌&&◌}
use mathlib.Core.List.{List, [], ◌∷◌, map}
use mathlib.Core.Option.{Option, none, some}
use mathlib.Core.Logic.{◌⊎◌, inl, inr}
use Prim.Native.Nat.{ℕ, zero, suc, ◌+◌, ◌-◌, ◌≤◌, ◌<◌}
use native.Mathlib.Decide.{dec_lt}
use native.Mathlib.Nat.{add-zero}
use native.Mathlib.Omega.{arith}
use borrow.Author.Tests.{ltb-true, eqb-true, ne_eqb}
use lib.Dec.{eqb, ltb}
use lib.ListN.{get_or, take, drop}
use lib.Seq.{drop-cons, get_or-take}
use Rattle.model.specs.Lists.{range, all}
use Rattle.model.specs.Evaluate.{property_order, twin}
use Rattle.model.proofs.Places.{length-each, each_at}
use Rattle.model.proofs.Tests.{and-true}
use Rattle.evaluate.specs.Order.{order_at, order_count}

pub order_is : (weighted : Bool) → property_order weighted ≡ map order_at (range 0 (order_count weighted))
unfolding property_order order_at
order_is true = refl
order_is false = refl

-- what is left at place k
pub order-more : (n k : ℕ) → k < n → drop k (map order_at (range 0 n)) ≡ order_at k ∷ drop (k + 1) (map order_at (range 0 n))
order-more n k h =
    let e : suc k ≡ k + 1 = omega arith in
    drop-cons (map order_at (range 0 n)) k 0 (omega (arith, length-each order_at 0 n))
    ∙ ap (λ (q : ℕ). q ∷ drop (suc k) (map order_at (range 0 n))) (each_at order_at n k 0 h)
    ∙ ap (λ (i : ℕ). order_at k ∷ drop i (map order_at (range 0 n))) e

-- a test that a whole range passes
pub in_each : (p : ℕ → Bool) (first n k : ℕ) → all p (range first n) ≡ true → k < n → p (first + k) ≡ true
in_each p first zero k e h = absurd (omega arith)
in_each p first (suc n) zero e h = rw (add-zero first) (and-true (p first) (all p (range (suc first) n)) e).0
in_each p first (suc n) (suc k) e h =
    let i : suc first + k ≡ first + suc k = omega arith in
    ap p (sym i) ∙ in_each p (suc first) n k (and-true (p first) (all p (range (suc first) n)) e).1 (omega arith)

at_each : (p : ℕ → Bool) (k : ℕ) → all p (range 0 24) ≡ true → k < 24 → p k ≡ true
at_each p k e h = let i : 0 + k ≡ k = omega arith in ap p (sym i) ∙ in_each p 0 24 k e h

-- where a property stands
pub place_of : ℕ → ℕ
place_of q = cond (ltb q 15) q (cond (eqb q 15) 23 (q - 1))

is_placed : ℕ → Bool
is_placed k = eqb (place_of (order_at k)) k && ltb (order_at k) 24

abbrev is_none : Option ℕ → Bool
is_none none = true
is_none (some a) = false

none_is : (o : Option ℕ) → is_none o ≡ true → o ≡ none
none_is none e = refl
none_is (some a) e = let z : ◌≡◌ {A = ℕ} 0 1 = cc in absurd (omega arith)

precedes : ℕ → Option ℕ → Bool
precedes k none = true
precedes k (some a) = ltb (place_of a) k && (eqb (order_at (place_of a)) a && is_none (twin a))

is_preceded : ℕ → Bool
is_preceded k = precedes k (twin (order_at k))

placed : (k : ℕ) → k < 24 → is_placed k ≡ true
unfolding is_placed place_of order_at
placed k h = at_each is_placed k refl h

preceded : (k : ℕ) → k < 24 → is_preceded k ≡ true
unfolding is_preceded precedes place_of order_at twin
preceded k h = at_each is_preceded k refl h

pub order-place : (k : ℕ) → k < 24 → place_of (order_at k) ≡ k
unfolding is_placed
order-place k h = eqb-true (place_of (order_at k)) k (and-true (eqb (place_of (order_at k)) k) (ltb (order_at k) 24) (placed k h)).0

pub order_below : (k : ℕ) → k < 24 → order_at k < 24
unfolding is_placed
order_below k h = ltb-true (order_at k) 24 (and-true (eqb (place_of (order_at k)) k) (ltb (order_at k) 24) (placed k h)).1

-- no property twice
pub order-once : (j k : ℕ) → j < 24 → k < 24 → order_at j ≡ order_at k → j ≡ k
order-once j k h l e = sym (order-place j h) ∙ ap place_of e ∙ order-place k l

-- a twin stands before, and has no twin itself
pub twin-before : (k a : ℕ) → k < 24 → twin (order_at k) ≡ some a → (place_of a < k) × (order_at (place_of a) ≡ a) × (twin a ≡ none)
unfolding is_preceded precedes
twin-before k a h e =
    let all3 = and-true (ltb (place_of a) k) (eqb (order_at (place_of a)) a && is_none (twin a)) (ap (precedes k) (sym e) ∙ preceded k h) in
    let two = and-true (eqb (order_at (place_of a)) a) (is_none (twin a)) all3.1 in
    (ltb-true (place_of a) k all3.0, eqb-true (order_at (place_of a)) a two.0, none_is (twin a) two.1)

-- ---- a property's twin, as the code finds it

-- the property after its twin
abbrev IsNext : ℕ → Type 0
IsNext q = (q ≡ 17) ⊎ ((q ≡ 19) ⊎ ((q ≡ 21) ⊎ (q ≡ 23)))

pub twin-next : (q : ℕ) → IsNext q → some (q - 1) ≡ twin q
unfolding twin
twin-next q (inl e) = rw e
twin-next q (inr (inl e)) = rw e
twin-next q (inr (inr (inl e))) = rw e
twin-next q (inr (inr (inr e))) = rw e

pub twin-two : (q : ℕ) → 6 ≤ q → q ≤ 7 → some (q - 2) ≡ twin q
unfolding twin
twin-two q l h = elim (dec_lt q 7) [
  | yes m ↦ (let e : q ≡ 6 = omega arith in rw e)
  | no m ↦ (let e : q ≡ 7 = omega arith in rw e)
]

pub twin-none : (q : ℕ) → (IsNext q → ⊥) → (6 ≤ q → q ≤ 7 → ⊥) → none ≡ twin q
unfolding twin
twin-none q n m =
    simp (
      ne_eqb q 6 (λ e. m (omega arith) (omega arith)),
      ne_eqb q 7 (λ e. m (omega arith) (omega arith)),
      ne_eqb q 17 (λ e. n (inl e)),
      ne_eqb q 19 (λ e. n (inr (inl e))),
      ne_eqb q 21 (λ e. n (inr (inr (inl e)))),
      ne_eqb q 23 (λ e. n (inr (inr (inr e)))),
    )

is_low : Option ℕ → Bool
is_low none = true
is_low (some a) = ltb a 24

pub twin-low : (q a : ℕ) → twin q ≡ some a → a < 24
unfolding twin is_low
twin-low q a e = ltb-true a 24 (ap is_low (sym e) ∙ go (eqb q 6) (eqb q 7) (eqb q 17) (eqb q 19) (eqb q 21) (eqb q 23))
  where
    go : (b c d e f g : Bool) → is_low (cond b (some 4) (cond c (some 5) (cond d (some 16) (cond e (some 18) (cond f (some 20) (cond g (some 22) none)))))) ≡ true
    go true c d e f g = refl
    go false true d e f g = refl
    go false false true e f g = refl
    go false false false true f g = refl
    go false false false false true g = refl
    go false false false false false true = refl
    go false false false false false false = refl

pub order-few : (weighted : Bool) → order_count weighted ≤ 24
order-few true = omega arith
order-few false = omega arith

-- ---- the order, as the code's table has it

abbrev pub table : List ℕ
table = 0 ∷ 1 ∷ 2 ∷ 3 ∷ 4 ∷ 5 ∷ 6 ∷ 7 ∷ 8 ∷ 9 ∷ 10 ∷ 11 ∷ 12 ∷ 13 ∷ 14 ∷ 16 ∷ 17 ∷ 18 ∷ 19 ∷ 20 ∷ 21 ∷ 22 ∷ 23 ∷ 15 ∷ []

is_listed : ℕ → Bool
is_listed k = eqb (get_or table k 0) (order_at k)

listed : (k : ℕ) → k < 24 → is_listed k ≡ true
unfolding is_listed order_at
listed k h = at_each is_listed k refl h

pub table_at : (n k : ℕ) → n ≤ 24 → k < n → get_or (take n table) k 0 ≡ order_at k
unfolding is_listed
table_at n k few h = get_or-take n table k 0 h ∙ eqb-true (get_or table k 0) (order_at k) (listed k (omega arith))
