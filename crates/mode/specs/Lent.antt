-- What the lists of a mode step are. Assumes nothing.
use Rattle.std.specs.Prelude.{ℕ, ◌*◌, ◌≤◌, ◌<◌, ◌≡◌, List, ℤ, length, get_or}
use Rattle.model.specs.Settings.{toks_per_row, max_rows}
use Rattle.mode.specs.Counted.{max_width}

-- a residual a row, and rows from first to end
pub record Inside (first end : ℕ) (res : List ℤ) : Type 0 where
  pub ordered : first ≤ end
  pub inside : end ≤ length res
  pub few : length res ≤ max_rows

-- a count space whose first numbers are 0
pub record Clear (counts : List ℕ) : Type 0 where
  pub long : max_width ≤ length counts
  pub zeros : (i : ℕ) → i < max_width → get_or counts i 0 ≡ 0

-- both, and 14 tokens a row
pub record Rebasable (tok : List ℕ) (res : List ℤ) (first end : ℕ) (counts : List ℕ) : Type 0 where
  pub span : Inside first end res
  pub tokens : length tok ≡ length res * toks_per_row
  pub clear : Clear counts

-- the zero tokens of the rows from first to end are below 128: they are tokens of 32-bit values
abbrev pub LowTokens : ℕ → ℕ → List ℕ → Type 0
LowTokens first end tok = (i : ℕ) → first ≤ i → i < end → get_or tok (i * toks_per_row) 0 < 128
