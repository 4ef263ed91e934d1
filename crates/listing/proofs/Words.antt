-- What the machine's signed operations make of a pattern, of a number's magnitude and of its text. Assumes nothing.
use mathlib.Core.Path.{◌≡◌, refl}
use mathlib.Core.Bool.{true, false}
use mathlib.Core.List.{[], ◌∷◌, ◌++◌}
use Prim.Native.Nat.{ℕ, ◌<◌}
use native.Mathlib.Decide.{dec_lt}
use native.Mathlib.Omega.{arith}
use borrow.Author.Tests.{lt-ltb, le-ltb, ltb-true}
use lib.IntN.{ℤ, pos, negsuc, nat_abs}
use lib.Signed.{lt_z}
use mir.Syntax.{w32}
use mir.Val.{SFits, to_z, of_z}
use mir.ValLaws.{to_z-of_z}
use Rattle.listing.specs.Text.{decimal, signed_decimal}
use Rattle.listing.specs.Listing.{signed}

-- ---- a pattern's number

pub signed-is : (p : ℕ) → to_z w32 p ≡ signed p
unfolding signed
signed-is p = go (dec_lt p 2147483648)
  where
    go : Dec (p < 2147483648) → to_z w32 p ≡ signed p
    go (yes lt) = rw (lt-ltb p 2147483648 lt)
    go (no le) = rw (le-ltb p 2147483648 (omega arith))

-- ---- a number's text, from its sign and magnitude

module _ (z : ℤ) (h : SFits w32 z) where
  pub text_natural : lt_z (to_z w32 (of_z w32 z)) (pos 0) ≡ false → signed_decimal z ≡ decimal (nat_abs (to_z w32 (of_z w32 z)))
  unfolding signed_decimal
  text_natural e = rw (to_z-of_z w32 z h) (go z (rw (to_z-of_z w32 z h) at e))
    where
      go : (z : ℤ) → lt_z z (pos 0) ≡ false → signed_decimal z ≡ decimal (nat_abs z)
      go (pos n) e = refl
      go (negsuc n) e = let z : ◌≡◌ {A = ℕ} 0 1 = cc in absurd (omega arith)

  pub text_negative : lt_z (to_z w32 (of_z w32 z)) (pos 0) ≡ true → signed_decimal z ≡ (45 ∷ []) ++ decimal (nat_abs (to_z w32 (of_z w32 z)))
  unfolding signed_decimal
  text_negative e = rw (to_z-of_z w32 z h) (go z (rw (to_z-of_z w32 z h) at e))
    where
      go : (z : ℤ) → lt_z z (pos 0) ≡ true → signed_decimal z ≡ (45 ∷ []) ++ decimal (nat_abs z)
      go (pos n) e = let none = ltb-true n 0 e in absurd (omega arith)
      go (negsuc n) e = refl
