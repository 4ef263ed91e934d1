-- What the functions on histograms ask of their callers. Assumes nothing.
use Rattle.std.specs.Prelude.{ℕ, ◌+◌, ◌≤◌, ◌<◌, List, [], ◌∷◌, false, length, pos, T, Float}
use Rattle.std.specs.Float.{fin}
use Rattle.model.specs.Settings.{max_rows}
use Rattle.model.specs.Cost.{log_of}
use Rattle.model.specs.Single.{singles}
use Rattle.model.specs.Profile.{is_between}

-- how many rows a histogram counts
unfoldable pub rows_in : List ℕ → ℕ
rows_in [] = 0
rows_in (c ∷ cs) = c + rows_in cs

-- the logarithms of 1 to `rows` are there, each from 0 to 32 (refusal 6)
pub record LogsReach (rows : ℕ) (logs : List Float) : Type 0 where
  pub long : rows < length logs
  pub fit : (c : ℕ) → 0 < c → c ≤ rows → T (is_between (fin false 0 (pos 0)) (fin false 1 (pos 5)) (log_of singles logs c))

-- The row limit makes every cast exact: the counts sum to at most the total, which is at most 65,536, and the tokens are below 256.
-- The logarithms reach the total
pub record Counted (hist : List ℕ) (total : ℕ) (logs : List Float) : Type 0 where
  pub rows : rows_in hist ≤ total
  pub small : total ≤ max_rows
  pub tokens : length hist ≤ 256
  pub reach : total < length logs
