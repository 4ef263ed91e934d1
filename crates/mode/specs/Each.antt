-- What holds of each residual of a span. Assumes nothing.
use Rattle.std.specs.Prelude.{ℕ, ◌^◌, ◌<◌, ◌≡◌, List, [], ◌∷◌, ℤ, pos, ◌+ℤ◌, ◌-ℤ◌}
use Rattle.std.specs.Int.Signed.{mag}

-- every one of the values is such
abbrev pub Each : (ℤ → Type 0) → List ℤ → Type 0
Each Such [] = Unit {0}
Each Such (v ∷ vs) = Such v × Each Such vs

-- v is low + at, and at is below the width
pub record Offset (low : ℤ) (width : ℕ) (v : ℤ) : Type 0 where
  pub at : ℕ
  pub value : v ≡ low +ℤ pos at
  pub near : at < width

-- if 32 bits hold v, they hold v - mode
pub record Differs (mode v : ℤ) : Type 0 where
  pub fits : mag v < 2 ^ 31 → mag (v -ℤ mode) < 2 ^ 31
