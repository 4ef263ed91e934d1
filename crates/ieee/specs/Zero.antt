-- A sum is -0 only where both parts are: so a sum that starts at +0 is never -0. A sum of two values of the format that is not zero does not round
-- to zero, since it is a multiple of the format's smallest value. Assumes nothing.
use Rattle.std.specs.Prelude.{◌≡◌, refl, ◌⊎◌, Bool, true, false, not, ◌&&◌, cond, ℤ, pos, negsuc, T, ltb, leb, eqb, Float}
use Rattle.std.proofs.Common.{sym, ap, ◌∙◌, subst, inl, inr, le_trans, le_of_eq, zero-lt-suc, one-mul, mul_assoc, mul_comm, mul-le-mul_right, mul-le-mul_left, mul-pos, add-mul, le-div_iff_mul-le, eq-zero-or-pos, le_of_lt, arith, ltb→lt, leb→le, eqb→eq, pow-add, pow_pos}
use Prim.Native.Nat.{ℕ, zero, suc, ◌+◌, ◌-◌, ◌*◌, ◌/◌, ◌%◌, ◌^◌, ◌≤◌, ◌<◌, compare}
use Rattle.std.proofs.Math.Nat.{mul-sub}
use Rattle.std.specs.Bool.{beq}
use Rattle.std.proofs.Math.Dec.{nleb→lt, not_T}
use Rattle.std.specs.Float.{nan, inf, fin, Format}
use Rattle.std.specs.Float.Ieee.{prec, emax, low, up, down, size, odd, units, round, sum, add, fits}
use Rattle.std.specs.Float.Ieee.Digits.{size-lt, size_reaches}
use Rattle.std.specs.Float.Ieee.Fits.{round_is, and_l, and_r, up_pos, down_pos, two, two-le_pos}
use Rattle.std.specs.Float.Ieee.Exact.{HasValue, odd_sign}
use Rattle.std.specs.Float.Ieee.Nearest.{closest, nearest-ge}
use Rattle.std.specs.Float.Ieee.Positive.{first_pos}
use Rattle.ieee.specs.Sign.{clear, round-clear}

-- x is -0
abbrev pub minus_zero : Float → Bool
minus_zero nan = false
minus_zero (inf s) = false
minus_zero (fin false m e) = false
minus_zero (fin true m e) = eqb m 0

-- ---- a fraction of one smallest value or more does not round to zero
not-zero : (m : ℕ) → 0 < m → T (not (eqb m 0))
not-zero m h = not_T (eqb m 0) (λ t. none (eqb→eq m 0 t))
  where
    none : m ≡ 0 → ⊥
    none e = omega arith

of-value : (x : Float) (s : Bool) (a c : ℕ) → HasValue x s a c → 0 < a → T (not (minus_zero x))
of-value nan s a c v h = tt
of-value (inf t) s a c v h = tt
of-value (fin false m e) s a c v h = tt
of-value (fin true m e) s a c v h = not-zero m (first_pos m (up e) (first_pos (m * up e) c (subst (λ (z : ℕ). 0 < z) (sym v.1) (mul-pos h (down_pos e)))))

units-plus : (f : Format) (s : Bool) (q k : ℕ) → 0 < q → T (not (minus_zero (units f s q k)))
unfolding units
units-plus f s q k h = go (ltb (q * 2 ^ k) (2 ^ (low f + suc (emax f))))
  where
    go : (b : Bool) → T (not (minus_zero (cond b (odd (suc (prec f)) s q k (low f)) (inf s))))
    go true = of-value (odd (suc (prec f)) s q k (low f)) s (q * 2 ^ k) (2 ^ low f) (odd_sign (suc (prec f)) s q k (low f)) (mul-pos h (pow_pos k))
    go false = tt

has_digits : (w : ℕ) → 1 ≤ w → 0 < size w
has_digits w h = elim (eq-zero-or-pos (size w)) [ inl z ↦ absurd (none (subst (λ (k : ℕ). w < 2 ^ k) z (size-lt w))) | inr p ↦ p ]
  where
    none : w < 1 → ⊥
    none l = omega arith

fewer : (z p : ℕ) → 0 < z → 0 < p → z - p < z
fewer z p h k = omega arith

kept-pos : (f : Format) (n den : ℕ) → 0 < den → den ≤ n → 0 < closest n (den * 2 ^ (size (n / den) - prec f))
kept-pos f n den D h =
    let w = n / den in
    let one : 1 ≤ w = (le-div_iff_mul-le D).1 (le_trans (le_of_eq (one-mul den)) h) in
    let k = size w - prec f in
    let reach : 2 ^ k * den ≤ n = (le-div_iff_mul-le D).0 (size_reaches w k (fewer (size w) (prec f) (has_digits w one) (two-le_pos (prec f) (two f)))) in
    let u = den * 2 ^ k in
    le_trans ((le-div_iff_mul-le (mul-pos D (pow_pos k))).1 (le_trans (le_of_eq (one-mul u ∙ mul_comm den (2 ^ k))) reach)) (nearest-ge (n / u) (compare (n % u * 2) u))

round-plus : (f : Format) (s : Bool) (num den : ℕ) → 0 < den → den ≤ num * 2 ^ low f → T (not (minus_zero (round f s num den)))
round-plus f s num den D h =
    subst (λ (x : Float). T (not (minus_zero x))) (sym (round_is f s num den)) (units-plus f s _ (size (num * 2 ^ low f / den) - prec f) (kept-pos f (num * 2 ^ low f) den D h))

clear-plus : (x : Float) → T (clear x) → T (not (minus_zero x))
clear-plus nan h = tt
clear-plus (inf s) h = tt
clear-plus (fin false m e) h = tt
clear-plus (fin true m e) h = absurd h

-- with the sign s, where a negative one comes with a fraction that is not zero
round-signed : (f : Format) (s : Bool) (num den : ℕ) → 0 < den → (T s → den ≤ num * 2 ^ low f) → T (not (minus_zero (round f s num den)))
round-signed f true num den D h = round-plus f true num den D (h tt)
round-signed f false num den D h = clear-plus (round f false num den) (round-clear f num den)

-- ---- sums of multiples
-- v is a multiple of d
record Multiple (d v : ℕ) : Type 0 where
  by : ℕ
  is : v ≡ by * d

at_least : (d v : ℕ) → Multiple d v → 0 < v → d ≤ v
at_least d v m h =
    let p : 0 < m.by = first_pos m.by d (subst (λ (x : ℕ). 0 < x) m.is h) in
    le_trans (le_of_eq (sym (one-mul d))) (le_trans (mul-le-mul_right d p) (le_of_eq (sym m.is)))

plus : (d a b : ℕ) → Multiple d a → Multiple d b → Multiple d (a + b)
plus d a b p q = record { by = p.by + q.by; is = ap (λ (x : ℕ). x + b) p.is ∙ ap (λ (x : ℕ). p.by * d + x) q.is ∙ sym (add-mul p.by q.by d) }

less : (d a b : ℕ) → Multiple d a → Multiple d b → Multiple d (a - b)
less d a b p q =
    record {
      by = p.by - q.by;
      is = ap (λ (x : ℕ). x - b) p.is ∙ ap (λ (x : ℕ). p.by * d - x) q.is ∙ sym (mul_comm (p.by - q.by) d ∙ mul-sub d p.by q.by ∙ ap (λ (x : ℕ). x - d * q.by) (mul_comm d p.by) ∙ ap (λ (x : ℕ). p.by * d - x) (mul_comm d q.by));
    }

-- `down e` is a power of two
places : ℤ → ℕ
places (pos k) = 0
places (negsuc k) = suc k

down_is : (e : ℤ) → down e ≡ 2 ^ places e
unfolding places
down_is (pos k) = refl
down_is (negsuc k) = refl

back : (i j : ℕ) → i ≤ j → (j - i) + i ≡ j
back i j h = omega arith

divides : (d e : ℤ) → places d ≤ places e → Multiple (down d) (down e)
divides d e h =
    record {
      by = 2 ^ (places e - places d);
      is = down_is e ∙ ap (λ (x : ℕ). 2 ^ x) (sym (back (places d) (places e) h)) ∙ pow-add 2 (places e - places d) (places d) ∙ ap (λ (x : ℕ). 2 ^ (places e - places d) * x) (sym (down_is d));
    }

times : (d v k : ℕ) → Multiple d v → Multiple d (k * v)
times d v k m = record { by = k * m.by; is = ap (λ (x : ℕ). k * x) m.is ∙ sym (mul_assoc k m.by d) }

-- what two values of the format have in common: a denominator of their sums that one smallest value reaches
record Grain (f : Format) (e d : ℤ) : Type 0 where
  grain : ℕ
  left : Multiple grain (down d)
  right : Multiple grain (down e)
  reach : down e * down d ≤ grain * 2 ^ low f

grain-of : (f : Format) (e d : ℤ) → down e ≤ 2 ^ low f → down d ≤ 2 ^ low f → Grain f e d
grain-of f e d h k = go (leb (places e) (places d)) (leb→le (places e) (places d)) (nleb→lt (places e) (places d))
  where
    go : (b : Bool) → (T b → places e ≤ places d) → (T (not b) → places d < places e) → Grain f e d
    go true l g = record { grain = down e; left = divides e d (l tt); right = record { by = 1; is = sym (one-mul (down e)) }; reach = mul-le-mul_left (down e) k }
    go false l g =
        record {
          grain = down d;
          left = record { by = 1; is = sym (one-mul (down d)) };
          right = divides d e (le_of_lt (g tt));
          reach = le_trans (le_of_eq (mul_comm (down e) (down d))) (mul-le-mul_left (down d) h);
        }

fits-down : (f : Format) (s : Bool) (m : ℕ) (e : ℤ) → T (fits f (fin s m e)) → down e ≤ 2 ^ low f
unfolding fits
fits-down f s zero e t =
    le_trans (le_of_eq (sym (one-mul (down e)))) (le_trans (mul-le-mul_right (down e) (up_pos e)) (le_trans (le_of_eq (eqb→eq (up e * down e) 1 t)) (pow_pos (low f))))
fits-down f s (suc m) e t =
    let odd-and-small = eqb (suc m % 2) 1 && ltb (suc m) (2 ^ prec f) in
    let deep = leb (down e) (2 ^ low f) in
    leb→le (down e) (2 ^ low f) (and_r odd-and-small deep (and_l (odd-and-small && deep) (ltb (suc m * up e) (2 ^ suc (emax f) * down e)) t))

-- ---- the sum
reached : (f : Format) (e d : ℤ) (v : ℕ) (g : Grain f e d) → Multiple g.grain v → 0 < v → down e * down d ≤ v * 2 ^ low f
reached f e d v g m h = le_trans g.reach (mul-le-mul_right (2 ^ low f) (at_least g.grain v m h))

sum-plus : (f : Format) (s : Bool) (a : ℕ) (t : Bool) (b c : ℕ) → 0 < c → (T s → 0 < a) → ((v : ℕ) → 0 < v → (v ≡ a + b) ⊎ ((v ≡ a - b) ⊎ (v ≡ b - a)) → c ≤ v * 2 ^ low f)
    → T (not (minus_zero (sum f s a t b c)))
unfolding sum
sum-plus f s a t b c C sa r = go (beq s t) (ltb a b) (ltb→lt a b)
  where
    more : 0 < a → 0 < a + b
    more h = omega arith

    gap : (x y : ℕ) → x < y → 0 < y - x
    gap x y h = omega arith

    go : (u w : Bool) → (T w → a < b) → T (not (minus_zero (cond u (round f s (a + b) c) (cond w (round f t (b - a) c) (round f (s && ltb b a) (a - b) c)))))
    go true w l = round-signed f s (a + b) c C (λ h. r (a + b) (more (sa h)) (inl refl))
    go false true l = round-signed f t (b - a) c C (λ h. r (b - a) (gap a b (l tt)) (inr (inr refl)))
    go false false l = round-signed f (s && ltb b a) (a - b) c C (λ h. r (a - b) (gap b a (ltb→lt b a (and_r s (ltb b a) h))) (inr (inl refl)))

-- the first part is not -0: nor is the sum
pub add-plus : (f : Format) (x y : Float) → T (fits f x) → T (fits f y) → T (not (minus_zero x)) → T (not (minus_zero (add f x y)))
unfolding add
add-plus f nan y p q h = tt
add-plus f (inf s) nan p q h = tt
add-plus f (inf true) (inf true) p q h = tt
add-plus f (inf true) (inf false) p q h = tt
add-plus f (inf false) (inf true) p q h = tt
add-plus f (inf false) (inf false) p q h = tt
add-plus f (inf s) (fin t n d) p q h = tt
add-plus f (fin s m e) nan p q h = tt
add-plus f (fin s m e) (inf t) p q h = tt
add-plus f (fin s m e) (fin t n d) p q h =
    let g = grain-of f e d (fits-down f s m e p) (fits-down f t n d q) in
    let a = m * up e * down d in
    let b = n * up d * down e in
    let ma : Multiple g.grain a = times g.grain (down d) (m * up e) g.left in
    let mb : Multiple g.grain b = times g.grain (down e) (n * up d) g.right in
    sum-plus f s a t b (down e * down d) (mul-pos (down_pos e) (down_pos d)) (λ k. mul-pos (mul-pos (above s k h) (up_pos e)) (down_pos d))
    (λ v k w. reached f e d v g (case v g.grain a b ma mb w) k)
  where
    above : (s : Bool) → T s → T (not (minus_zero (fin s m e))) → 0 < m
    above false k h = elim k [ ]
    above true k h = pos_of m h
      where
        pos_of : (m : ℕ) → T (not (eqb m 0)) → 0 < m
        pos_of zero h = absurd h
        pos_of (suc m) h = zero-lt-suc m

    case : (v k a b : ℕ) → Multiple k a → Multiple k b → (v ≡ a + b) ⊎ ((v ≡ a - b) ⊎ (v ≡ b - a)) → Multiple k v
    case v k a b ma mb (inl e) = subst (λ (x : ℕ). Multiple k x) (sym e) (plus k a b ma mb)
    case v k a b ma mb (inr (inl e)) = subst (λ (x : ℕ). Multiple k x) (sym e) (less k a b ma mb)
    case v k a b ma mb (inr (inr e)) = subst (λ (x : ℕ). Multiple k x) (sym e) (less k b a mb ma)
