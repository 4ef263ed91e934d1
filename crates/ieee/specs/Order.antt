-- `lt` on finite values, as an order of fractions; -0 and +0 are level, neither is below the other. Among the finite values of a format that
-- are not -0 it is a strict total order of the values themselves, the order of Rust's `total_cmp` (`comparison`, `lt_at_most`). Assumes nothing.
use Rattle.std.specs.Prelude.{◌≡◌, refl, ℕ, ◌+◌, ◌-◌, ◌*◌, ◌/◌, ◌^◌, ◌≤◌, ◌<◌, Bool, true, false, not, ◌&&◌, cond, ℤ, T, ltb, eqb, Float}
use Rattle.std.proofs.Common.{sym, ap, ◌∙◌, subst, inl, inr, le_refl, le_of_eq, le_of_lt, le_antisymm, not-le_of_lt, zero-mul, zero-add, add-zero, add_comm, mul_right_comm, add-mul, mul-le-mul_right, le_of_mul-le-mul_right, mul-pos, eq-zero-or-pos, arith, ltb→lt, nltb→le, eqb→eq, T_not, le-ltb}
use Rattle.std.proofs.Math.Dec.{not_T}
use Rattle.std.specs.Float.Ieee.Fits.{and_i, and_l, and_r, eq→eqb, up_pos, down_pos}
use Rattle.std.specs.Float.{nan, inf, fin, Format}
use Rattle.std.specs.Float.Ieee.{prec, low, up, down, size, hid, top, lt, eq, fits, to_bits, of_bits}
use Rattle.std.specs.Float.Ieee.Bits.{of_bits-to_bits}
use Rattle.std.specs.Float.Ieee.Nearest.{div_same}
use Rattle.std.specs.Float.Ieee.Scale.{finite}
use Rattle.std.specs.Float.Ieee.Positive.{den, den_pos}
use Rattle.ieee.specs.Zero.{minus_zero}

-- ---- x is (over x - under x) / den x
abbrev over : Float → ℕ
over nan = 0
over (inf s) = 0
over (fin false m e) = m * up e
over (fin true m e) = 0

abbrev under : Float → ℕ
under nan = 0
under (inf s) = 0
under (fin false m e) = 0
under (fin true m e) = m * up e

-- the sides of x < y, with no differences in them
abbrev left : Float → Float → ℕ
left x y = over x * den y + under y * den x

abbrev right : Float → Float → ℕ
right x y = over y * den x + under x * den y

lt-sides : (x y : Float) → T (finite x) → T (finite y) → lt x y ≡ ltb (left x y) (right x y)
unfolding lt
lt-sides nan y p q = absurd p
lt-sides (inf s) y p q = absurd p
lt-sides (fin s m e) nan p q = absurd q
lt-sides (fin s m e) (inf t) p q = absurd q
lt-sides (fin false m e) (fin false n d) p q = simp (zero-mul, add-zero)
lt-sides (fin false m e) (fin true n d) p q = sym (le-ltb (left (fin false m e) (fin true n d)) (right (fin false m e) (fin true n d)) (omega arith))
lt-sides (fin true m e) (fin false n d) p q = simp zero-mul (ap (ltb 0) (add_comm (m * up e * down d) (n * up d * down e)))
lt-sides (fin true m e) (fin true n d) p q = simp (zero-mul, zero-add)

below→ : (x y : Float) → T (finite x) → T (finite y) → T (lt x y) → left x y < right x y
below→ x y p q h = ltb→lt _ _ (subst T (lt-sides x y p q) h)

-- x is at most y: y is not below it
at_most→ : (x y : Float) → T (finite x) → T (finite y) → T (not (lt y x)) → left x y ≤ right x y
at_most→ x y p q h = nltb→le _ _ (subst (λ (b : Bool). T (not b)) (lt-sides y x q p) h)

→atMost : (x y : Float) → T (finite x) → T (finite y) → left x y ≤ right x y → T (not (lt y x))
→atMost x y p q h = not_T (lt y x) (λ t. not-le_of_lt (below→ y x q p t) h)

-- three fractions (P - M) / d, each at most the next
chain : (P1 M1 d1 P2 M2 d2 P3 M3 d3 : ℕ) → 0 < d2 → P1 * d2 + M2 * d1 ≤ P2 * d1 + M1 * d2 → P2 * d3 + M3 * d2 ≤ P3 * d2 + M2 * d3
    → P1 * d3 + M3 * d1 ≤ P3 * d1 + M1 * d3
chain P1 M1 d1 P2 M2 d2 P3 M3 d3 D h k =
    let a : P1 * d2 * d3 + M2 * d1 * d3 ≤ P2 * d1 * d3 + M1 * d2 * d3 = simp add-mul at (mul-le-mul_right d3 h) in
    let b : P2 * d3 * d1 + M3 * d2 * d1 ≤ P3 * d2 * d1 + M2 * d3 * d1 = simp add-mul at (mul-le-mul_right d1 k) in
    le_of_mul-le-mul_right
    (simp add-mul
    (omega (arith, mul_right_comm P1 d2 d3, mul_right_comm M1 d2 d3, mul_right_comm P2 d1 d3, mul_right_comm M2 d1 d3, mul_right_comm P3 d2 d1, mul_right_comm M3 d2 d1)))
    D

pub at_most_trans : (x y z : Float) → T (finite x) → T (finite y) → T (finite z) → T (not (lt y x)) → T (not (lt z y)) → T (not (lt z x))
at_most_trans x y z p q r h k =
    →atMost x z p r (chain (over x) (under x) (den x) (over y) (under y) (den y) (over z) (under z) (den z) (den_pos y) (at_most→ x y p q h) (at_most→ y z q r k))

-- ---- the laws
pub lt_asym : (x y : Float) → T (finite x) → T (finite y) → T (lt x y) → T (not (lt y x))
lt_asym x y p q h = →atMost x y p q (le_of_lt (below→ x y p q h))

pub lt_irrefl : (x : Float) → T (finite x) → T (not (lt x x))
lt_irrefl x p = →atMost x x p p (le_refl (left x x))

-- x < y ≤ z, and x ≤ y < z
pub lt_at_most : (x y z : Float) → T (finite x) → T (finite y) → T (finite z) → T (lt x y) → T (not (lt z y)) → T (lt x z)
lt_at_most x y z p q r h k = go (lt x z) refl
  where
    go : (b : Bool) → lt x z ≡ b → T b
    go true e = tt
    go false e = absurd (T_not (lt x y) (at_most_trans y z x q r p k (rw e tt)) h)

pub at_most_lt : (x y z : Float) → T (finite x) → T (finite y) → T (finite z) → T (not (lt y x)) → T (lt y z) → T (lt x z)
at_most_lt x y z p q r h k = go (lt x z) refl
  where
    go : (b : Bool) → lt x z ≡ b → T b
    go true e = tt
    go false e = absurd (T_not (lt y z) (at_most_trans z x y r p q (rw e tt) h) k)

-- a finite value is below infinity
pub below_infinity : (x : Float) → T (finite x) → T (lt x (inf false))
unfolding lt
below_infinity nan p = absurd p
below_infinity (inf s) p = absurd p
below_infinity (fin s m e) p = tt

zeros : (a b : ℕ) → a ≡ 0 → b ≡ 0 → T (eqb a b && eqb a 0)
zeros a b h k = let e : a ≡ b = omega arith in and_i (eqb a b) (eqb a 0) (eq→eqb e) (eq→eqb h)

level_of_sides : (x y : Float) → T (finite x) → T (finite y) → left x y ≡ right x y → T (eq x y)
unfolding eq
level_of_sides nan y p q h = absurd p
level_of_sides (inf s) y p q h = absurd p
level_of_sides (fin s m e) nan p q h = absurd q
level_of_sides (fin s m e) (inf u) p q h = absurd q
level_of_sides (fin false m e) (fin false n d) p q h = let a : m * up e * down d ≡ n * up d * down e = omega arith in and_i (eqb (m * up e * down d) (n * up d * down e)) true (eq→eqb a) tt
level_of_sides (fin true m e) (fin true n d) p q h = let a : m * up e * down d ≡ n * up d * down e = omega arith in and_i (eqb (m * up e * down d) (n * up d * down e)) true (eq→eqb a) tt
level_of_sides (fin false m e) (fin true n d) p q h = zeros (m * up e * down d) (n * up d * down e) (omega arith) (omega arith)
level_of_sides (fin true m e) (fin false n d) p q h = zeros (m * up e * down d) (n * up d * down e) (omega arith) (omega arith)

-- where neither is below the other they are level
level : (x y : Float) → T (finite x) → T (finite y) → T (not (lt x y)) → T (not (lt y x)) → T (eq x y)
level x y p q h k = level_of_sides x y p q (le_antisymm (at_most→ x y p q k) (at_most→ y x q p h))

-- ---- level values of one format that are not -0 are the same: a format writes a number in one way
same_fields : (f : Format) (s : Bool) (m : ℕ) (e : ℤ) (n : ℕ) (d : ℤ) → T (fits f (fin s m e)) → T (fits f (fin s n d)) → m * up e * down d ≡ n * up d * down e → fin s m e ≡ fin s n d
unfolding to_bits
same_fields f s m e n d p q h =
    let L = 2 ^ low f in
    let cross : m * up e * L * down d ≡ n * up d * L * down e = mul_right_comm (m * up e) L (down d) ∙ ap (λ (k : ℕ). k * L) h ∙ mul_right_comm (n * up d) (down e) L in
    sym (of_bits-to_bits f (fin s m e) p)
    ∙ ap (λ (k : ℕ). of_bits f (cond s (top f) 0 + (size k - prec f) * hid f + k / 2 ^ (size k - prec f))) (div_same (m * up e * L) (down e) (n * up d * L) (down d) (down_pos e) (down_pos d) cross)
    ∙ of_bits-to_bits f (fin s n d) q

-- the significand of a zero is 0
no_digits : (m : ℕ) (e d : ℤ) → m * up e * down d ≡ 0 → m ≡ 0
no_digits m e d h = elim (eq-zero-or-pos m) [ inl z ↦ z | inr p ↦ absurd (not-le_of_lt (mul-pos (mul-pos p (up_pos e)) (down_pos d)) (le_of_eq h)) ]

not-minus : (m : ℕ) (e d : ℤ) → T (not (minus_zero (fin true m e))) → m * up e * down d ≡ 0 → ⊥
not-minus m e d h z = T_not (eqb m 0) h (eq→eqb (no_digits m e d z))

level-same : (f : Format) (x y : Float) → T (finite x) → T (finite y) → T (fits f x) → T (fits f y) → T (not (minus_zero x)) → T (not (minus_zero y)) → T (eq x y) → x ≡ y
unfolding eq
level-same f nan y i j p q a b h = absurd i
level-same f (inf s) y i j p q a b h = absurd i
level-same f (fin s m e) nan i j p q a b h = absurd j
level-same f (fin s m e) (inf t) i j p q a b h = absurd j
level-same f (fin false m e) (fin false n d) i j p q a b h = same_fields f false m e n d p q (eqb→eq _ _ (and_l (eqb (m * up e * down d) (n * up d * down e)) true h))
level-same f (fin true m e) (fin true n d) i j p q a b h = same_fields f true m e n d p q (eqb→eq _ _ (and_l (eqb (m * up e * down d) (n * up d * down e)) true h))
level-same f (fin true m e) (fin false n d) i j p q a b h = absurd (not-minus m e d a (eqb→eq _ _ (and_r (eqb (m * up e * down d) (n * up d * down e)) (eqb (m * up e * down d) 0) h)))
level-same f (fin false m e) (fin true n d) i j p q a b h =
    let A = m * up e * down d in
    let B = n * up d * down e in
    absurd (not-minus n d e b (sym (eqb→eq A B (and_l (eqb A B) (eqb A 0) h)) ∙ eqb→eq A 0 (and_r (eqb A B) (eqb A 0) h)))

-- ---- exactly one of x < y, x = y, x > y
pub data Comparison (x y : Float) : Type 0 where
  less : T (lt x y) → (x ≡ y → ⊥) → T (not (lt y x)) → Comparison x y
  same : T (not (lt x y)) → x ≡ y → T (not (lt y x)) → Comparison x y
  more : T (not (lt x y)) → (x ≡ y → ⊥) → T (lt y x) → Comparison x y

not_same : (x y : Float) → T (finite x) → T (lt x y) → x ≡ y → ⊥
not_same x y p h e = let t : T (lt x x) = rw (← e) at h in T_not (lt x x) (lt_irrefl x p) t

pub comparison : (f : Format) (x y : Float) → T (finite x) → T (finite y) → T (fits f x) → T (fits f y) → T (not (minus_zero x)) → T (not (minus_zero y)) → Comparison x y
comparison f x y i j p q a b = go (lt x y) (lt y x) refl refl
  where
    go : (l g : Bool) → lt x y ≡ l → lt y x ≡ g → Comparison x y
    go true g e d = let h : T (lt x y) = rw e tt in less h (not_same x y i h) (lt_asym x y i j h)
    go false true e d = let h : T (lt y x) = rw d tt in more (lt_asym y x j i h) (λ s. not_same y x j h (sym s)) h
    go false false e d =
        let h : T (not (lt x y)) = rw e tt in
        let k : T (not (lt y x)) = rw d tt in
        same h (level-same f x y i j p q a b (level x y i j h k)) k
