-- 01's packing is the inverse of the standard's UnpackSigned, and its form on 32-bit patterns gives the same number. Assumes nothing.
use mathlib.Core.Path.{◌≡◌, ap}
use Prim.Native.Nat.{ℕ, suc, ◌-◌, ◌*◌, ◌%◌, ◌^◌, ◌<◌}
use native.Mathlib.Omega.{arith}
use borrow.Author.Tests.{lt-ltb, le-ltb, eq-eqb}
use lib.IntN.{ℤ, pos, negsuc}
use lib.Signed.{mag}
use Rattle.model.specs.Pack.{packed, pattern, packed_pattern}
use Rattle.model.specs.Standard.{unpack_signed}

pub unpack_packed : (v : ℤ) → unpack_signed (packed v) ≡ v
unfolding packed unpack_signed
unpack_packed (pos n) = rw (eq-eqb (2 * n % 2) 0 (omega arith)) (ap pos (omega arith))
unpack_packed (negsuc n) = search arith

pub packed_unpack : (u : ℕ) → packed (unpack_signed u) ≡ u
unfolding packed unpack_signed
packed_unpack u = search arith

-- of the numbers that 32 bits hold
pub packed_lt : (v : ℤ) → mag v < 2 ^ 31 → packed v < 2 ^ 32
unfolding packed
packed_lt (pos n) h = omega arith
packed_lt (negsuc n) h = omega arith

pub packed-pattern : (v : ℤ) → mag v < 2 ^ 31 → packed_pattern (pattern v) ≡ packed v
unfolding packed pattern packed_pattern
packed-pattern (pos n) h = rw (lt-ltb n (2 ^ 31) h) (omega arith)
packed-pattern (negsuc n) h = rw (le-ltb (2 ^ 32 - suc n) (2 ^ 31) (omega arith)) (omega arith)
