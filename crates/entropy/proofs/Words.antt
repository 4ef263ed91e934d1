-- What the machine's operations on 32-bit words make of the definitions. Assumes nothing.
use Rattle.std.proofs.Common.{◌≡◌, ◌≢◌, ◌∙◌, ◌-ℤ◌, eq-eqb, ne_eqb, ℕ, suc, ◌+◌, ◌-◌, ◌*◌, ◌/◌, ◌%◌, ◌^◌, ◌<◌, ◌≤◌, true, false, not, ltb, ℤ, pos, negsuc, refl, mod-eq_of_lt, one-mul, arith, pow_pos, w32, Fits, SFits, to_z, of_z, le-ltb, lt-ltb}
use Rattle.std.proofs.lemmas.Int.{ints}
use Rattle.std.proofs.Math.Facts.{to_z_pos}
use lib.Bits.{bit_and, and_mask}
use lib.Count.{count_leading_zeros, leading_top}
use lib.Pow.{pow-lt}
use lib.Signed.{lt_z}
use mir.ValLaws.{to_z-of_z}
use Rattle.model.specs.declared.Encoded.{Encoded}
use Rattle.model.specs.Pack.{packed, pattern, packed_pattern}
use Rattle.model.specs.Standard.{unpack_signed}
use Rattle.model.specs.Token.{top_bit, token_of, extra_count, extra_bits, value_of, encoded_of}
use Rattle.model.proofs.Packing.{packed-pattern}
use Rattle.model.proofs.Tokens.{top_bit_lem, top_least, large-count, value-fits, large-value}

-- ---- the pattern of a signed number z that 32 bits hold

-- z as the machine reads it back
abbrev pub read : ℤ → ℤ
read z = to_z w32 (of_z w32 z)

pub pattern-is : (z : ℤ) → SFits w32 z → of_z w32 (read z) ≡ pattern z
unfolding pattern
pattern-is z h = rw (to_z-of_z w32 z h) (go z)
  where
    go : (z : ℤ) → of_z w32 z ≡ pattern z
    go (pos n) = refl
    go (negsuc n) = refl

-- ---- packing

module _ (z : ℤ) (h : SFits w32 z) (bits doubled : ℕ) (b : bits ≡ pattern (read z)) (d : doubled ≡ (bits + bits) % 2 ^ 32) where
  sign : ltb (pattern z) (2 ^ 31) ≡ not (lt_z (read z) (pos 0))
  unfolding pattern
  sign = rw (to_z-of_z w32 z h) (go z h)
    where
      go : (z : ℤ) → SFits w32 z → ltb (pattern z) (2 ^ 31) ≡ not (lt_z z (pos 0))
      go (pos n) h = rw (lt-ltb n (2 ^ 31) h.sfits, le-ltb n 0 (omega arith))
      go (negsuc n) h = le-ltb (2 ^ 32 - suc n) (2 ^ 31) (omega (arith, h.sfits))

  pub packed_natural : lt_z (read z) (pos 0) ≡ false → doubled ≡ packed z
  unfolding packed_pattern
  packed_natural e = rw (d, b, to_z-of_z w32 z h) (rw (sign, e) at (packed-pattern z h.sfits))

  pub packed-negative : lt_z (read z) (pos 0) ≡ true → 4294967295 - doubled ≡ packed z
  unfolding packed_pattern
  packed-negative e = rw (d, b, to_z-of_z w32 z h) (rw (sign, e) at (packed-pattern z h.sfits))

-- ---- unpacking

module _ (v : ℕ) (h : Fits w32 v) (half : ℤ) (is : half ≡ to_z w32 (v / 2)) where
  half-is : half ≡ pos (v / 2)
  half-is = is ∙ to_z_pos w32 (omega (arith, h.fits))

  -- below zero
  below : negsuc 0 -ℤ pos (v / 2) ≡ negsuc (v / 2)
  below = omega (arith, ints)

  pub unpacked_even : v % 2 ≡ 0 → read half ≡ unpack_signed v
  unfolding unpack_signed
  unpacked_even e = rw (half-is, eq-eqb (v % 2) 0 e) (to_z-of_z w32 (pos (v / 2)) (record { sfits = omega (arith, h.fits) }))

  pub unpacked_odd : (v % 2 ≢ 0) → read (negsuc 0 -ℤ read half) ≡ unpack_signed v
  unfolding unpack_signed
  unpacked_odd o =
      let up : (v + 1) / 2 ≡ suc (v / 2) = omega arith in
      let again : read (pos (v / 2)) ≡ pos (v / 2) = to_z-of_z w32 (pos (v / 2)) (record { sfits = omega (arith, h.fits) }) in
      rw (half-is, again, below, ne_eqb (v % 2) 0 o, up) (to_z-of_z w32 (negsuc (v / 2)) (record { sfits = omega (arith, h.fits) }))

-- ---- tokens

pub shl_one : (k : ℕ) → k < 32 → (1 * 2 ^ k) % 2 ^ 32 ≡ 2 ^ k
shl_one k h = let lt : 2 ^ k < 2 ^ 32 = pow-lt h in rw one-mul (mod-eq_of_lt lt)

-- a value of at least 16, its top bit's place n found by its leading zeros
module _ (v : ℕ) (large : 16 ≤ v) (fits : Fits w32 v) where
  pub few-zeros : count_leading_zeros 32 v ≤ 31
  few-zeros = let top = leading_top 32 v (omega arith) fits.fits in omega (arith, top.1)

  abbrev n : ℕ
  n = 31 - count_leading_zeros 32 v

  place : n ≡ top_bit v
  place = let top = leading_top 32 v (omega arith) fits.fits in omega (arith, top.1, top_bit_lem top.0 v top.2 top.3)

  pub place_least : 4 ≤ n
  place_least = rw place (top_least v large)

  pub top-value : (1 * 2 ^ n) % 2 ^ 32 ≤ v
  top-value =
      let top = leading_top 32 v (omega arith) fits.fits in
      let at : n ≡ top.0 = omega (arith, top.1) in
      rw (shl_one n (omega arith), at) top.2

  pub word-token : (n * 4) % 2 ^ 32 + (v - (1 * 2 ^ n) % 2 ^ 32) / 2 ^ (n - 2) ≡ token_of v
  unfolding token_of
  word-token =
      let four : n * 4 % 2 ^ 32 ≡ 4 * n = omega arith in
      rw (shl_one n (omega arith), four, place, le-ltb v 16 large)

  pub word_count : n - 2 ≡ extra_count (token_of v)
  word_count = rw (place, large-count v large)

  pub word_mask : 1 ≤ (1 * 2 ^ (n - 2)) % 2 ^ 32
  word_mask = rw (shl_one (n - 2) (omega arith)) (pow_pos (n - 2))

  pub word-bits : bit_and v ((1 * 2 ^ (n - 2)) % 2 ^ 32 - 1) ≡ extra_bits v
  unfolding extra_bits
  word-bits = rw (shl_one (n - 2) (omega arith), word_count) (and_mask v (extra_count (token_of v)))

pub encoded-is : (v token nbits bits : ℕ) → token ≡ token_of v → nbits ≡ extra_count (token_of v) → bits ≡ extra_bits v
    → ◌≡◌ {A = Encoded} (record { token = token; nbits = nbits; bits = bits }) (encoded_of v)
unfolding encoded_of
encoded-is v token nbits bits a b c = rw (a, b, c)

-- a token from 16 to 127 and its extra bits
pub word_value : (t extra : ℕ) → 16 ≤ t → t ≤ 127 → extra < 2 ^ extra_count t → ((4 + t % 4) * 2 ^ extra_count t) % 2 ^ 32 + extra ≡ value_of t extra
word_value t extra large le few =
    let whole = large-value t extra large in
    let lt : (4 + t % 4) * 2 ^ extra_count t < 2 ^ 32 = omega (arith, value-fits t extra le few) in
    rw (mod-eq_of_lt lt, whole)
