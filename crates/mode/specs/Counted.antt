-- Residuals in the count space (document 01, "Mode": the commonest residual, the smallest at a tie). Assumes nothing.
use Rattle.std.specs.Prelude.{ℕ, ◌+◌, ◌-◌, ◌^◌, ◌≤◌, ◌<◌, List, ℤ, pos, ◌+ℤ◌, ◌-ℤ◌, nat_abs, length, get_or}
use Rattle.std.specs.Int.Signed.{mag}
use Rattle.model.specs.Settings.{max_rows}
use Rattle.mode.specs.Each.{Each, Offset}

-- most values that are counted, a place for each
abbrev pub max_width : ℕ
max_width = 4096

-- how far a value lies above the lowest
abbrev pub offset_of : ℤ → ℤ → ℕ
offset_of low v = nat_abs (v -ℤ low)

-- the values have their places, and no count outgrows its place
pub record Countable (low : ℤ) (vs : List ℤ) (counts : List ℕ) : Type 0 where
  pub near : Each (Offset low max_width) vs
  pub long : max_width ≤ length counts
  pub room : (i : ℕ) → i < max_width → get_or counts i 0 + length vs ≤ max_rows

-- the values spread from low over a width that is counted, and 32 bits hold the last value of it
pub record Narrow (low : ℤ) (width : ℕ) (vs : List ℤ) : Type 0 where
  pub near : Each (Offset low width) vs
  pub some : 0 < width
  pub narrow : width ≤ max_width
  pub top : mag (low +ℤ pos (width - 1)) < 2 ^ 31
