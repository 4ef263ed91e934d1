-- Tokens and their values (01, "Packing and tokens"; the Rust's `uint_encode`), and which of them can be read ("Value of a token"). Assumes nothing.
use Rattle.std.specs.Prelude.{ℕ, ◌+◌, ◌-◌, ◌*◌, ◌/◌, ◌%◌, ◌^◌, Bool, ◌&&◌, cond, ltb, leb}
use Rattle.std.specs.Float.Ieee.{size}
use Rattle.model.specs.declared.Encoded.{Encoded}

-- the place of the top bit of a value above 0: `size` counts its binary digits
unfoldable pub top_bit : ℕ → ℕ
top_bit v = size v - 1

-- a value under 16 is its own token; else, with n its top bit's place, 4n + the next two bits
unfoldable pub token_of : ℕ → ℕ
token_of v = cond (ltb v 16) v (4 * top_bit v + (v - 2 ^ top_bit v) / 2 ^ (top_bit v - 2))

-- how many extra bits follow a token: none under 16, else n - 2
unfoldable pub extra_count : ℕ → ℕ
extra_count t = cond (ltb t 16) 0 (t / 4 - 2)

-- the extra bits of a value: its lowest
unfoldable pub extra_bits : ℕ → ℕ
extra_bits v = v % 2 ^ extra_count (token_of v)

-- reading: for token t ≥ 16, (4 + t mod 4) × 2 ^ (t / 4 - 2) + extra
unfoldable pub value_of : ℕ → ℕ → ℕ
value_of t extra = cond (ltb t 16) t ((4 + t % 4) * 2 ^ (t / 4 - 2) + extra)

-- what a value is coded as
unfoldable pub encoded_of : ℕ → Encoded
encoded_of v = record { token = token_of v; nbits = extra_count (token_of v); bits = extra_bits v }

-- a token of at most 127, and extra bits that are not too large for their count (under 16 the count is 0, so the extra bits are 0)
unfoldable pub readable : ℕ → ℕ → Bool
readable t extra = leb t 127 && ltb extra (2 ^ extra_count t)
