-- 01's tokens are the standard's hybrid integers at (4, 2, 0). A value is read back from its token and extra bits, and a token with its extra bits is written
-- back from its value. Assumes nothing.
use mathlib.Core.Path.{◌≡◌, sym, ap, ◌∙◌}
use Prim.Native.Nat.{ℕ, suc, ◌+◌, ◌-◌, ◌*◌, ◌/◌, ◌%◌, ◌^◌, ◌≤◌, ◌<◌}
use native.Mathlib.Nat.{mod-one, add-mul, pow-suc, div-add-mod', mod-lt, le-div_iff_mul-le, div-lt_iff_lt-mul}
use native.Mathlib.Decide.{dec_lt}
use native.Mathlib.Omega.{arith}
use borrow.Author.Tests.{lt-ltb, le-ltb, le-leb, lt-leb}
use lib.Arith.{digits_lt, digits_mod}
use lib.Ieee.{size}
use lib.Ieee.Digits.{size-lt, size_reaches, size-le}
use lib.IntN.{ℤ}
use lib.Pow.{pow-add, pow_mono, pow_pos}
use lib.Signed.{mag}
use Rattle.model.specs.Pack.{packed}
use Rattle.model.specs.Standard.{hybrid_bits, read_hybrid, default_config}
use Rattle.model.specs.Token.{top_bit, token_of, extra_count, extra_bits, value_of, encoded_of, readable}
use Rattle.model.specs.Refuse.{Refusal, token_refusal}
use Rattle.model.specs.Operations.{refused, accepted, token_answer}
use Rattle.model.proofs.Packing.{packed_lt}

-- ---- the standard's reading

pub count_is_standard : (t : ℕ) → extra_count t ≡ hybrid_bits default_config t
unfolding extra_count hybrid_bits
count_is_standard t = search arith

pub value_is_standard : (t extra : ℕ) → value_of t extra ≡ read_hybrid default_config t extra
unfolding value_of read_hybrid hybrid_bits
value_is_standard t extra = search arith

-- ---- values under 16

pub small-token : (v : ℕ) → v < 16 → token_of v ≡ v
unfolding token_of
small-token v h = rw (lt-ltb v 16 h)

pub small_count : (t : ℕ) → t < 16 → extra_count t ≡ 0
unfolding extra_count
small_count t h = rw (lt-ltb t 16 h)

pub small-value : (t extra : ℕ) → t < 16 → value_of t extra ≡ t
unfolding value_of
small-value t extra h = rw (lt-ltb t 16 h)

pub small-bits : (v : ℕ) → v < 16 → extra_bits v ≡ 0
unfolding extra_bits
small-bits v h = rw (small-token v h, small_count v h) (mod-one v)

-- ---- values of 16 or more: the top bit is bit k + 2, q is the next two bits, and r the k extra bits

pub top_bit_lem : (n v : ℕ) → 2 ^ n ≤ v → v < 2 ^ suc n → top_bit v ≡ n
unfolding top_bit
top_bit_lem n v low high = go (dec_lt n (size v))
  where
    go : Dec (n < size v) → size v - 1 ≡ n
    go (yes h) = omega (arith, size-le v (suc n) high)
    go (no h) = let up : 2 ^ size v ≤ 2 ^ n = pow_mono (omega arith) in absurd (omega (arith, size-lt v))

module _ (k q : ℕ) (wide : 2 ≤ k) (two : q < 4) where
  wide-count : extra_count (4 * (k + 2) + q) ≡ k
  unfolding extra_count
  wide-count = rw (le-ltb (4 * (k + 2) + q) 16 (omega arith)) (omega arith)

  wide_value : (r : ℕ) → value_of (4 * (k + 2) + q) r ≡ (4 + q) * 2 ^ k + r
  unfolding value_of
  wide_value r = search arith

module _ (k q r : ℕ) (wide : 2 ≤ k) (two : q < 4) (extra : r < 2 ^ k) where
  low : 2 ^ (k + 2) ≤ (4 + q) * 2 ^ k + r
  low = omega (arith, pow-add 2 k 2, add-mul 4 q (2 ^ k))

  high : (4 + q) * 2 ^ k + r < 2 ^ suc (k + 2)
  high = omega (arith, pow-suc 2 (k + 2), pow-add 2 k 2, digits_lt {q = 4 + q} {m = 8} {r = r} {c = 2 ^ k} (omega arith) extra)

  large : 16 ≤ (4 + q) * 2 ^ k + r
  large = let up : 4 ≤ k + 2 = omega arith in omega (arith, low, pow_mono up)

  wide-top : top_bit ((4 + q) * 2 ^ k + r) ≡ k + 2
  wide-top = top_bit_lem (k + 2) ((4 + q) * 2 ^ k + r) low high

  wide-token : token_of ((4 + q) * 2 ^ k + r) ≡ 4 * (k + 2) + q
  unfolding token_of
  wide-token = search (arith, pow-add, add-mul, large, wide-top)

  wide_token_fits : (4 + q) * 2 ^ k + r < 2 ^ 32 → token_of ((4 + q) * 2 ^ k + r) ≤ 127
  wide_token_fits h = rw wide-token (go (dec_lt k 30))
    where
      go : Dec (k < 30) → 4 * (k + 2) + q ≤ 127
      go (yes few) = omega arith
      go (no many) = let up : 32 ≤ k + 2 = omega arith in absurd (omega (arith, low, pow_mono up))

  wide-bits : extra_bits ((4 + q) * 2 ^ k + r) ≡ r
  unfolding extra_bits
  wide-bits = rw (wide-token, wide-count k q wide two, digits_mod (4 + q) extra)

-- so a law of values is shown of those under 16 and of those with such parts
by_value : (P : ℕ → Type 0) → ((v : ℕ) → v < 16 → P v) → ((k q r : ℕ) → 2 ≤ k → q < 4 → r < 2 ^ k → P ((4 + q) * 2 ^ k + r)) → (v : ℕ) → P v
by_value P small wide v = go (dec_lt v 16) (dec_lt (size v) 5)
  where
    go : Dec (v < 16) → Dec (size v < 5) → P v
    go (yes h) d = small v h
    go (no h) (yes short) = let up : size v ≤ 4 = omega arith in absurd (omega (arith, size-lt v, pow_mono up))
    go (no h) (no long) =
        let k = size v - 3 in
        let top : k + 2 < size v = omega arith in
        let end : size v ≡ k + 3 = omega arith in
        let least : 4 ≤ v / 2 ^ k = (le-div_iff_mul-le (pow_pos k)).1 (omega (arith, size_reaches v (k + 2) top, pow-add 2 k 2)) in
        let most : v / 2 ^ k < 8 = (div-lt_iff_lt-mul (pow_pos k)).1 (omega (arith, size-lt v, ap (λ (n : ℕ). 2 ^ n) end, pow-add 2 k 3)) in
        let back : 4 + (v / 2 ^ k - 4) ≡ v / 2 ^ k = omega arith in
        rw (back, div-add-mod' v (2 ^ k)) at (wide k (v / 2 ^ k - 4) (v % 2 ^ k) (omega arith) (omega arith) (mod-lt v (pow_pos k)))

-- and a law of tokens likewise
by_token : (P : ℕ → Type 0) → ((t : ℕ) → t < 16 → P t) → ((k q : ℕ) → 2 ≤ k → q < 4 → P (4 * (k + 2) + q)) → (t : ℕ) → P t
by_token P small wide t = go (dec_lt t 16)
  where
    go : Dec (t < 16) → P t
    go (yes h) = small t h
    go (no h) = let back : 4 * (t / 4 - 2 + 2) + t % 4 ≡ t = omega arith in rw back at (wide (t / 4 - 2) (t % 4) (omega arith) (omega arith))

pub top_least : (v : ℕ) → 16 ≤ v → 4 ≤ top_bit v
top_least = by_value (λ v. 16 ≤ v → 4 ≤ top_bit v) (λ v h le. absurd (omega arith)) (λ k q r a b c le. rw (wide-top k q r a b c) (omega arith))

pub large-count : (v : ℕ) → 16 ≤ v → extra_count (token_of v) ≡ top_bit v - 2
large-count =
    by_value (λ v. 16 ≤ v → extra_count (token_of v) ≡ top_bit v - 2)
    (λ v h le. absurd (omega arith))
    (λ k q r a b c le. rw (wide-token k q r a b c, wide-count k q a b, wide-top k q r a b c) (omega arith))

-- ---- from a value to its token and back

pub read_back : (v : ℕ) → value_of (token_of v) (extra_bits v) ≡ v
read_back =
    by_value (λ v. value_of (token_of v) (extra_bits v) ≡ v)
    (λ v h. rw (small-token v h) (small-value v (extra_bits v) h))
    (λ k q r a b c. rw (wide-token k q r a b c, wide-bits k q r a b c) (wide_value k q a b r))

pub standard_reads_back : (v : ℕ) → read_hybrid default_config (token_of v) (extra_bits v) ≡ v
standard_reads_back v = sym (value_is_standard (token_of v) (extra_bits v)) ∙ read_back v

pub bits_fit : (v : ℕ) → extra_bits v < 2 ^ extra_count (token_of v)
unfolding extra_bits
bits_fit v = mod-lt v (pow_pos (extra_count (token_of v)))

pub token-fits : (v : ℕ) → v < 2 ^ 32 → token_of v ≤ 127
token-fits = by_value (λ v. v < 2 ^ 32 → token_of v ≤ 127) (λ v h lt. rw (small-token v h) (omega arith)) wide_token_fits

-- the zero predictor's tokens: why alphabet 128 is enough, and a cap of 255 never acts
pub residual_token_fits : (z : ℤ) → mag z < 2 ^ 31 → token_of (packed z) ≤ 127
residual_token_fits z h = token-fits (packed z) (packed_lt z h)

-- ---- from a token and its extra bits to the value and back

pub count_fits : (t : ℕ) → t ≤ 127 → extra_count t ≤ 29
count_fits =
    by_token (λ t. t ≤ 127 → extra_count t ≤ 29)
    (λ t h le. rw (small_count t h) (omega arith))
    (λ k q a b le. rw (wide-count k q a b) (omega arith))

pub large-value : (t extra : ℕ) → 16 ≤ t → value_of t extra ≡ (4 + t % 4) * 2 ^ extra_count t + extra
unfolding value_of extra_count
large-value t extra h = rw (le-ltb t 16 h)

pub token_back : (t extra : ℕ) → extra < 2 ^ extra_count t → token_of (value_of t extra) ≡ t
token_back t extra =
    by_token (λ t. extra < 2 ^ extra_count t → token_of (value_of t extra) ≡ t)
    (λ t h few. rw (small-value t extra h) (small-token t h))
    (λ k q a b few. let c = rw (wide-count k q a b) at few in rw (wide_value k q a b extra) (wide-token k q extra a b c))
    t

pub bits_back : (t extra : ℕ) → extra < 2 ^ extra_count t → extra_bits (value_of t extra) ≡ extra
bits_back t extra =
    by_token (λ t. extra < 2 ^ extra_count t → extra_bits (value_of t extra) ≡ extra)
    (λ t h few. let none = rw (small_count t h) at few in rw (small-value t extra h, small-bits t h) (omega arith))
    (λ k q a b few. let c = rw (wide-count k q a b) at few in rw (wide_value k q a b extra) (wide-bits k q extra a b c))
    t

pub value-fits : (t extra : ℕ) → t ≤ 127 → extra < 2 ^ extra_count t → value_of t extra < 2 ^ 32
value-fits t extra =
    by_token (λ t. t ≤ 127 → extra < 2 ^ extra_count t → value_of t extra < 2 ^ 32)
    (λ t h le few. rw (small-value t extra h) (omega arith))
    (λ k q a b le few.
    let c = rw (wide-count k q a b) at few in
    let up : suc (k + 2) ≤ 32 = omega arith in
    rw (wide_value k q a b extra) (omega (arith, high k q extra a b c, pow_mono up)))
    t

-- ---- the value of a token, and the refusals

pub reads : (t extra : ℕ) → t ≤ 127 → extra < 2 ^ extra_count t → token_answer t extra ≡ accepted (value_of t extra)
unfolding token_answer token_refusal readable
reads t extra le lt = rw (le-leb t 127 le, lt-ltb extra (2 ^ extra_count t) lt)

-- 10 names no place
abbrev pub unread : Refusal
unread = record { number = 10; place = 0 }

pub refuses_token : (t extra : ℕ) → 127 < t → token_answer t extra ≡ refused unread
unfolding token_answer token_refusal readable
refuses_token t extra lt = rw (lt-leb t 127 lt)

pub refuses_extra : (t extra : ℕ) → t ≤ 127 → 2 ^ extra_count t ≤ extra → token_answer t extra ≡ refused unread
unfolding token_answer token_refusal readable
refuses_extra t extra le over = rw (le-leb t 127 le, le-ltb extra (2 ^ extra_count t) over)

-- ---- what is written is read back, and what is read is written back

pub encoded-reads : (v : ℕ) → v < 2 ^ 32 → token_answer (encoded_of v).token (encoded_of v).bits ≡ accepted v
unfolding encoded_of
encoded-reads v h = reads (token_of v) (extra_bits v) (token-fits v h) (bits_fit v) ∙ ap accepted (read_back v)

pub read-encodes : (t extra v : ℕ) → token_answer t extra ≡ accepted v → encoded_of v ≡ record { token = t; nbits = extra_count t; bits = extra }
unfolding encoded_of token_answer token_refusal readable
read-encodes t extra v h = search (arith, token_back, bits_back)
