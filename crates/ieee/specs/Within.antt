-- Bounds on floats. `Within b x` says that x is finite and at most b in size, for a whole number b.
-- Where the format holds b exactly, rounding does not lead out of it: so a sum or difference of bounded values is bounded by the sum of the bounds,
-- and a product by the product. Assumes nothing.
use Rattle.std.specs.Prelude.{◌≡◌, ◌⊎◌, ℕ, suc, ◌+◌, ◌-◌, ◌*◌, ◌^◌, ◌≤◌, ◌<◌, Bool, true, false, not, ◌&&◌, ◌||◌, cond, pos, T, ltb, eqb, Float}
use Rattle.std.proofs.Common.{sym, ap, ◌∙◌, subst, inl, inr, zero-le, le_trans, le_of_eq, le_of_lt, lt_of_lt_of_le, zero-lt-suc, zero-mul, add-mul, mul-one, mul_assoc, mul_comm, mul_right_comm, mul-le-mul, mul-le-mul_right, le_of_mul-le-mul_right, mul-pos, arith, true≢false, ltb→lt, eqb→eq, pow-add, pow_mono, shl_lt}
use Rattle.std.proofs.Math.Nat.{mul-mul-mul_comm}
use Rattle.std.specs.Bool.{beq}
use Rattle.std.specs.Float.{nan, inf, fin, Format}
use Rattle.std.specs.Float.Ieee.{prec, emax, low, up, down, round, neg, sum, add, sub, mul, of_int, le, unlike, is_nan}
use Rattle.std.specs.Float.Ieee.Fits.{down_pos, and_l}
use Rattle.std.specs.Float.Ieee.Scale.{finite}
use Rattle.std.specs.Float.Ieee.Exact.{HasValue, round_exact}
use Rattle.std.specs.Float.Ieee.Order.{round_mono}
use Rattle.ieee.specs.Sign.{clear, round-clear, round-neg}

-- m * 2 ^ e is at most b
abbrev pub Within : ℕ → Float → Type 0
Within b nan = ⊥
Within b (inf s) = ⊥
Within b (fin s m e) = m * up e ≤ b * down e

pub within_mono : (x : Float) {b c : ℕ} → b ≤ c → Within b x → Within c x
within_mono nan h w = w
within_mono (inf s) h w = w
within_mono (fin s m e) h w = le_trans w (mul-le-mul_right (down e) h)

pub within-finite : (x : Float) (b : ℕ) → Within b x → T (finite x)
within-finite nan b w = absurd w
within-finite (inf s) b w = absurd w
within-finite (fin s m e) b w = tt

pub within_not_nan : (x : Float) (b : ℕ) → Within b x → T (not (is_nan x))
unfolding is_nan
within_not_nan nan b w = absurd w
within_not_nan (inf s) b w = tt
within_not_nan (fin s m e) b w = tt

within-neg : (x : Float) (b : ℕ) → Within b x → Within b (neg x)
unfolding neg
within-neg nan b w = w
within-neg (inf s) b w = w
within-neg (fin s m e) b w = w

-- ---- rounding
or_split : (a b : Bool) → T (a || b) → T a ⊎ T b
or_split true b t = inl tt
or_split false b t = inr t

lt_or_eq : (a b : ℕ) → T (ltb a b || (eqb a b && true)) → a ≤ b
lt_or_eq a b t = elim (or_split (ltb a b) (eqb a b && true) t) [ inl u ↦ le_of_lt (ltb→lt a b u) | inr u ↦ le_of_eq (eqb→eq a b (and_l (eqb a b) true u)) ]

-- a value with a clear sign that is at most a whole number
under : (x y : Float) (b : ℕ) → T (clear x) → T (le x y) → HasValue y false b 1 → Within b x
unfolding le
under nan y b c h v = absurd c
under (inf true) y b c h v = absurd c
under (inf false) nan b c h v = absurd v
under (inf false) (inf t) b c h v = absurd v
under (inf false) (fin t n d) b c h v = absurd h
under (fin true m e) y b c h v = absurd c
under (fin false m e) nan b c h v = absurd v
under (fin false m e) (inf t) b c h v = absurd v
under (fin false m e) (fin true n d) b c h v = absurd (true≢false v.0)
under (fin false m e) (fin false n d) b c h v =
    let le' : m * up e * down d ≤ n * up d * down e = lt_or_eq (m * up e * down d) (n * up d * down e) h in
    let is : n * up d ≡ b * down d = sym (mul-one (n * up d)) ∙ v.1 in
    le_of_mul-le-mul_right (le_trans le' (le_of_eq (ap (λ (k : ℕ). k * down e) is ∙ mul_right_comm b (down d) (down e)))) (down_pos d)

-- the format holds b: it is q * 2 ^ j, with a q of no more digits than the format keeps, and in range
pub record Held (f : Format) (b : ℕ) : Type 0 where
  pub q : ℕ
  pub j : ℕ
  pub is : b ≡ q * 2 ^ j
  pub digits : q < 2 ^ prec f
  pub range : prec f + j ≤ suc (emax f)

shift : (p j l m : ℕ) → p + j ≤ m → p + (j + l) ≤ l + m
shift p j l m h = omega arith

round_within_clear : (f : Format) (num den b : ℕ) → Held f b → 0 < den → num ≤ b * den → Within b (round f false num den)
round_within_clear f num den b held D h =
    let q = held.q in
    let j = held.j in
    let l = low f in
    let e : b * 2 ^ l ≡ q * 2 ^ (j + l) * 1 =
    ap (λ (x : ℕ). x * 2 ^ l) held.is ∙ mul_assoc q (2 ^ j) (2 ^ l) ∙ ap (λ (x : ℕ). q * x) (sym (pow-add 2 j l)) ∙ sym (mul-one (q * 2 ^ (j + l))) in
    under (round f false num den) (round f false b 1) b (round-clear f num den)
    (round_mono f num den b 1 D (zero-lt-suc 0) (le_trans (le_of_eq (mul-one num)) h))
    (round_exact f false b 1 q (j + l) (zero-lt-suc 0) held.digits
    (lt_of_lt_of_le (shl_lt (prec f) (j + l) held.digits) (pow_mono (shift (prec f) j l (suc (emax f)) held.range))) e)

round-within : (f : Format) (s : Bool) (num den b : ℕ) → Held f b → 0 < den → num ≤ b * den → Within b (round f s num den)
round-within f false num den b held D h = round_within_clear f num den b held D h
round-within f true num den b held D h =
    subst (λ (x : Float). Within b x) (sym (round-neg f num den)) (within-neg (round f false num den) b (round_within_clear f num den b held D h))

-- ---- the operations
within-cond : (t : Bool) (x y : Float) (b : ℕ) → Within b x → Within b y → Within b (cond t x y)
within-cond true x y b h k = h
within-cond false x y b h k = k

join : (a b A B c S : ℕ) → a ≤ A * c → b ≤ B * c → A + B ≤ S → a + b ≤ S * c
join a b A B c S h k s =
    let e : (A + B) * c ≡ A * c + B * c = add-mul A B c in
    let m : (A + B) * c ≤ S * c = mul-le-mul_right c s in
    omega arith

sum-within : (f : Format) (s : Bool) (a : ℕ) (t : Bool) (b c S : ℕ) → Held f S → 0 < c → a + b ≤ S * c → Within S (sum f s a t b c)
unfolding sum
sum-within f s a t b c S held C h =
    within-cond (beq s t) _ _ S (round-within f s (a + b) c S held C h)
    (within-cond (ltb a b) _ _ S (round-within f t (b - a) c S held C (omega arith)) (round-within f (s && ltb b a) (a - b) c S held C (omega arith)))

pub add-within : (f : Format) (x y : Float) (A B S : ℕ) → Held f S → A + B ≤ S → Within A x → Within B y → Within S (add f x y)
unfolding add
add-within f nan y A B S held h p q = absurd p
add-within f (inf s) y A B S held h p q = absurd p
add-within f (fin s m e) nan A B S held h p q = absurd q
add-within f (fin s m e) (inf t) A B S held h p q = absurd q
add-within f (fin s m e) (fin t n d) A B S held h p q =
    sum-within f s (m * up e * down d) t (n * up d * down e) (down e * down d) S held (mul-pos (down_pos e) (down_pos d))
    (join (m * up e * down d) (n * up d * down e) A B (down e * down d) S
    (le_trans (mul-le-mul_right (down d) p) (le_of_eq (mul_assoc A (down e) (down d))))
    (le_trans (mul-le-mul_right (down e) q) (le_of_eq (mul_assoc B (down d) (down e) ∙ ap (λ (x : ℕ). B * x) (mul_comm (down d) (down e))))) h)

pub sub_within : (f : Format) (x y : Float) (A B S : ℕ) → Held f S → A + B ≤ S → Within A x → Within B y → Within S (sub f x y)
unfolding sub
sub_within f x y A B S held h p q = add-within f x (neg y) A B S held h p (within-neg y B q)

pub mul-within : (f : Format) (x y : Float) (A B P : ℕ) → Held f P → A * B ≤ P → Within A x → Within B y → Within P (mul f x y)
unfolding mul
mul-within f nan y A B P held h p q = absurd p
mul-within f (inf s) y A B P held h p q = absurd p
mul-within f (fin s m e) nan A B P held h p q = absurd q
mul-within f (fin s m e) (inf t) A B P held h p q = absurd q
mul-within f (fin s m e) (fin t n d) A B P held h p q =
    round-within f (unlike s t) (m * up e * (n * up d)) (down e * down d) P held (mul-pos (down_pos e) (down_pos d))
    (le_trans (mul-le-mul p q) (le_trans (le_of_eq (mul-mul-mul_comm A (down e) B (down d))) (mul-le-mul_right (down e * down d) h)))

pub of_nat_within : (f : Format) (n b : ℕ) → Held f b → n ≤ b → Within b (of_int f (pos n))
unfolding of_int
of_nat_within f n b held h = round-within f false n 1 b held (zero-lt-suc 0) (le_trans h (le_of_eq (sym (mul-one b))))

-- ---- how a test shows a bound: a value from 0 to a whole number, -0 included
pub between-within : (x hi : Float) (b : ℕ) → HasValue hi false b 1 → T (le (fin false 0 (pos 0)) x) → T (le x hi) → Within b x
unfolding le
between-within nan hi b v l h = absurd l
between-within (inf true) hi b v l h = absurd l
between-within (inf false) hi b v l h = under (inf false) hi b tt h v
between-within (fin false m e) hi b v l h = under (fin false m e) hi b tt h v
between-within (fin true m e) hi b v l h =
    le_trans (le_of_eq (sym (mul-one (m * up e)) ∙ sym (eqb→eq (0 * down e) (m * up e * 1) (and_l (eqb (0 * down e) (m * up e * 1)) (eqb (0 * down e) 0) l)) ∙ zero-mul (down e))) zero-le
