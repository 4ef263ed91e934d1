-- Packing (01, "Packing and tokens"; the Rust's `pack_signed`). Assumes nothing.
use Rattle.std.specs.Prelude.{ℕ, suc, ◌+◌, ◌-◌, ◌*◌, ◌%◌, ◌^◌, cond, ltb, ℤ, pos, negsuc}

-- v ≥ 0 packs to 2v, v < 0 to -2v - 1; `negsuc n` is -n - 1
unfoldable pub packed : ℤ → ℕ
packed (pos n) = 2 * n
packed (negsuc n) = 2 * n + 1

-- the 32-bit pattern of a signed number
unfoldable pub pattern : ℤ → ℕ
pattern (pos n) = n
pattern (negsuc n) = 2 ^ 32 - suc n

-- packing on 32-bit patterns: the doubling runs round at 2 ^ 32, and a negative number's is taken from all ones
unfoldable pub packed_pattern : ℕ → ℕ
packed_pattern p = let doubled = (p + p) % 2 ^ 32 in cond (ltb p (2 ^ 31)) doubled (2 ^ 32 - 1 - doubled)
