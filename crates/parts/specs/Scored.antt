-- What scoring a property asks of a C caller, who lends the side predictors as a list of numbers. Assumes nothing.
use Rattle.std.specs.Prelude.{List, ℕ, ◌-◌, ◌*◌, ◌≤◌, ◌<◌, ℤ, length, get_or, Float}
use Rattle.model.specs.Settings.{props_per_row, toks_per_row}
use Rattle.cost.specs.Counted.{LogsReach}
use Rattle.cost.specs.Histograms.{SpanFits, CountsSpan}
use Rattle.score_bins.specs.Bins.{Ascends}

-- the span's rows and counts, ascending candidates, side predictors, and logarithms that reach
pub record Scorable (props : List ℤ) (tok : List ℕ) (first end prop : ℕ) (cands : List ℤ)
    (preds : List ℕ) (alphabet : ℕ) (node : List ℕ) (logs : List Float) : Type 0 where
  pub span : SpanFits tok first end alphabet
  pub props_there : end * props_per_row ≤ length props
  pub property : prop < props_per_row
  pub ascends : Ascends cands
  pub few_cands : length cands ≤ 32
  pub pred : (j : ℕ) → j < length preds → get_or preds j 0 < toks_per_row
  pub some_preds : 1 ≤ length preds
  pub few_preds : length preds ≤ toks_per_row
  pub some_tokens : 1 ≤ alphabet
  pub tokens : alphabet ≤ 256
  pub counts : CountsSpan tok first end node alphabet
  pub reach : LogsReach (end - first) logs
