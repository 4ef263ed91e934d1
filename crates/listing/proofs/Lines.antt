-- Residuals by their place, how long a line is, and the text of what is left over. Assumes nothing.
use mathlib.Core.Path.{◌≡◌, refl, sym, ◌∙◌}
use mathlib.Core.List.{List, [], ◌∷◌, ◌++◌}
use Prim.Native.Nat.{ℕ, zero, suc, ◌+◌, ◌*◌, ◌/◌, ◌^◌, ◌≤◌, ◌<◌}
use native.Mathlib.Nat.{suc-add}
use native.Mathlib.Omega.{arith}
use lib.IntN.{ℤ, pos, negsuc}
use lib.ListN.{length, get_or, take, length-append}
use lib.Seq.{length-take-le, get_or-take}
use lib.Pow.{pow_mono}
use lib.Signed.{mag}
use Rattle.model.specs.Pack.{packed}
use Rattle.model.specs.Token.{token_of, extra_count, extra_bits, encoded_of}
use Rattle.model.proofs.Packing.{packed_lt}
use Rattle.model.proofs.Tokens.{token-fits, count_fits, bits_fit}
use Rattle.listing.specs.Text.{codes, decimal, signed_decimal, joined, Room, Wrote}
use Rattle.listing.specs.Listing.{residuals_of, residual_at, field, line_of, short_of}
use Rattle.listing.proofs.Writing.{wrote_none, wrote-length, turn, turn_end}
use Rattle.listing.proofs.Decimal.{decimal-one, decimal-length}

-- ---- residuals

pub residuals-length : (xs : List ℕ) → length (residuals_of xs) ≡ length xs / 4
unfolding residuals_of
residuals-length [] = refl
residuals-length (a ∷ []) = refl
residuals-length (a ∷ b ∷ []) = refl
residuals-length (a ∷ b ∷ c ∷ []) = refl
residuals-length (a ∷ b ∷ c ∷ d ∷ rest) = let tail = residuals-length rest in omega arith

pub residual_is : (xs : List ℕ) (i : ℕ) → i < length xs / 4 → get_or (residuals_of xs) i (pos 0) ≡ residual_at xs (4 * i)
unfolding residuals_of residual_at
residual_is [] i lt = absurd (omega arith)
residual_is (a ∷ []) i lt = absurd (omega arith)
residual_is (a ∷ b ∷ []) i lt = absurd (omega arith)
residual_is (a ∷ b ∷ c ∷ []) i lt = absurd (omega arith)
residual_is (a ∷ b ∷ c ∷ d ∷ rest) zero lt = refl
residual_is (a ∷ b ∷ c ∷ d ∷ rest) (suc i) lt =
    let place : 4 * suc i ≡ suc (suc (suc (suc (4 * i)))) = omega arith in
    rw (residual_is rest i (omega arith), place) (simp suc-add)

-- that of four bytes is the one at their place
pub residual-in : (xs bytes : List ℕ) (i : ℕ) → ((p : ℕ) → p < 4 → get_or bytes p 0 ≡ get_or xs (i * 4 + p) 0) → residual_at bytes 0 ≡ residual_at xs (4 * i)
unfolding residual_at
residual-in xs bytes i at =
    let z : i * 4 + 0 ≡ 4 * i = omega arith in
    let o : i * 4 + 1 ≡ 4 * i + 1 = omega arith in
    let t : i * 4 + 2 ≡ 4 * i + 2 = omega arith in
    let h : i * 4 + 3 ≡ 4 * i + 3 = omega arith in
    rw (at 0 (omega arith), at 1 (omega arith), at 2 (omega arith), at 3 (omega arith), z, o, t, h) refl

-- ---- lines

field-length : (d n : ℕ) → n < 10 ^ suc d → length (field n) ≤ suc (suc d)
unfolding field
field-length d n h = omega (arith, decimal-length d n h)

signed-length : (z : ℤ) → mag z < 2 ^ 31 → length (signed_decimal z) ≤ 11
unfolding signed_decimal
signed-length (pos n) h = omega (arith, decimal-length 9 n (omega arith))
signed-length (negsuc n) h = omega (arith, decimal-length 9 (suc n) (omega arith))

-- the longest is that of -2147483648
pub line_length : (z : ℤ) → mag z < 2 ^ 31 → length (line_of z) ≤ 40
unfolding line_of joined encoded_of
line_length z h =
    let v = packed z in
    let fits = packed_lt z h in
    let token = token-fits v fits in
    let count = count_fits (token_of v) token in
    let low : extra_bits v < 10 ^ 9 = omega (arith, bits_fit v, pow_mono count) in
    simp length-append
    (omega (
      arith,
      signed-length z h,
      field-length 9 v (omega arith),
      field-length 2 (token_of v) (omega arith),
      field-length 1 (extra_count (token_of v)) (omega arith),
      field-length 8 (extra_bits v) low,
    ))

-- ---- a part: n of its residuals have room, and i of these are listed

pub record Part (input old : List ℕ) (n i : ℕ) (out : List ℕ) (at : ℕ) : Type 0 where
  pub reached : i ≤ n
  pub small : at ≤ 40 * i
  pub wrote : Wrote old 0 (joined line_of (take i (take n (residuals_of input)))) out at

pub part_none : (input old : List ℕ) (n : ℕ) → Part input old n 0 old 0
unfolding joined
part_none input old n = record { reached = omega arith; small = omega arith; wrote = wrote_none old 0 }

module _ {input old out : List ℕ} {n i at : ℕ} (p : Part input old n i out at) (all : n ≤ length input / 4) (room : n ≤ length old / 40) where
  pub part_length : length out ≡ length old
  part_length = wrote-length p.wrote (omega (arith, p.wrote.after))

  count : length (take n (residuals_of input)) ≡ n
  count = length-take-le n (residuals_of input) (omega (arith, residuals-length input))

  module _ (lt : i < n) (z : ℤ) (fits : mag z < 2 ^ 31) (is : z ≡ residual_at input (4 * i)) where
    pub part_room : Room out at (line_of z)
    part_room = omega (arith, line_length z fits, part_length)

    pub part-more : {new : List ℕ} {end : ℕ} → Wrote out at (line_of z) new end → Part input old n (i + 1) new end
    part-more {new = new} {end = end} v =
        let long = line_length z fits in
        let next : z ≡ get_or (take n (residuals_of input)) i (pos 0) = is ∙ sym (get_or-take n (residuals_of input) i (pos 0) lt ∙ residual_is input i (omega arith)) in
        let piece : Wrote out at (line_of (get_or (take n (residuals_of input)) i (pos 0))) new end = rw next at v in
        let whole : Room old 0 (joined line_of (take i (take n (residuals_of input))) ++ line_of (get_or (take n (residuals_of input)) i (pos 0))) =
        rw (← next) (omega (arith, length-append (joined line_of (take i (take n (residuals_of input)))) (line_of z), p.wrote.after)) in
        record {
          reached = omega arith;
          small = omega (arith, v.after);
          wrote = turn line_of (take n (residuals_of input)) i (pos 0) (omega (arith, count)) p.wrote piece whole;
        }

  pub part_end : n ≤ i → Wrote old 0 (joined line_of (take n (residuals_of input))) out at
  part_end le = turn_end line_of (take n (residuals_of input)) i (omega (arith, count)) p.wrote

  pub part-fits : n ≤ i → Room old 0 (joined line_of (take n (residuals_of input)))
  part-fits le = let w = part_end le in omega (arith, w.after, p.small, p.reached)

-- ---- what is left over

pub short-is : (n : ℕ) → 0 < n → short_of n ≡ codes "short " ++ decimal n ++ (10 ∷ [])
unfolding short_of
short-is zero h = absurd (omega arith)
short-is (suc n) h = refl

pub short-length : (n : ℕ) → n < 10 → length (short_of n) ≤ 8
unfolding short_of codes
short-length zero h = omega arith
short-length (suc n) h = rw (decimal-one (suc n) h) (omega arith)
