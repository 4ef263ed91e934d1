-- The score of a property: what a caller owes, and how it follows from bins, of which number k counts the rows at most candidate k (document 01,
-- "Scoring"; the Rust's `score_split_plan`). Assumes nothing.
use Rattle.std.specs.Prelude.{◌≡◌, cond, List, ℕ, zero, suc, ◌+◌, ◌-◌, ◌*◌, ◌≤◌, ◌<◌, eqb, ℤ, pos, length, get_or, map, take, replicate, Float, Option, None, Some}
use Rattle.model.specs.Settings.{props_per_row, toks_per_row, max_rows}
use Rattle.model.specs.Single.{singles}
use Rattle.model.specs.Cost.{log_of, extra_from}
use Rattle.model.specs.Score as model
use Rattle.cost.specs.Counted.{rows_in, LogsReach}
use Rattle.cost.specs.Histograms.{part, SpanFits, CountsSpan}
use Rattle.score_windows.specs.declared.Lane.{Lane}
use Rattle.score_windows.specs.Windows.{lane_of}
use Rattle.score_bins.specs.Bins.{Ascends}
use Rattle.score_sides.specs.declared.Sides.{Sides}
use Rattle.score_sides.specs.Lowest.{run, costs_at, lowest_to, Ready}
use Rattle.score.specs.declared.Threshold.{Threshold}

-- the answer as the model has it: nothing to offer, or a threshold with its cost in bits and the number of rows on its le side
abbrev pub score_is : Option Threshold → model.Score singles
score_is None = model.nothing
score_is (Some t) = model.threshold t.val t.bits t.below

-- ---- what `score_property` asks

-- the span's rows and counts, ascending candidates, side predictors, and logarithms that reach
pub record Scorable (props : List ℤ) (tok : List ℕ) (first end prop : ℕ) (cands : List ℤ) (lanes : List Lane) (alphabet : ℕ) (node : List ℕ) (logs : List Float) : Type 0 where
  pub span : SpanFits tok first end alphabet
  pub props_there : end * props_per_row ≤ length props
  pub property : prop < props_per_row
  pub ascends : Ascends cands
  pub few_cands : length cands ≤ 32
  pub pred : (j : ℕ) → j < length lanes → (lane_of lanes j).pred < toks_per_row
  pub some_preds : 1 ≤ length lanes
  pub few_preds : length lanes ≤ toks_per_row
  pub some_tokens : 1 ≤ alphabet
  pub tokens : alphabet ≤ 256
  pub counts : CountsSpan tok first end node alphabet
  pub reach : LogsReach (end - first) logs

-- room for the bins of c candidates and s side predictors, all 0
pub record Spare (s alphabet c : ℕ) (room : List ℕ) : Type 0 where
  pub long : s * alphabet * (c + 2) ≤ length room
  pub zeros : room ≡ replicate (length room) 0

-- ---- from bins

-- of `total` rows, `size` at most the value: a threshold with an empty side is skipped
unfoldable pub scored_sides : ℕ → ℕ → ℤ → Sides → model.Score singles
scored_sides size total val sides = cond (eqb size 0) model.nothing (cond (eqb size total) model.nothing (model.threshold val (singles.plus sides.le sides.gt) size))

-- how many rows a bin counts: each has one token in the first window
abbrev pub size_at : List ℕ → List Lane → ℕ
size_at bin lanes = rows_in (take (lane_of lanes 0).width bin)

-- the score of a candidate from its bin
unfoldable pub scored_bin : List ℕ → List ℕ → ℕ → List Lane → ℕ → List Float → ℤ → model.Score singles
scored_bin bin node alphabet lanes total logs val =
    let size = size_at bin lanes in
    scored_sides size total val
    (lowest_to (costs_at bin node alphabet lanes (record { le = log_of singles logs size; gt = log_of singles logs (total - size) }) logs) (length lanes))

-- bin k
abbrev pub nth_bin : List ℕ → ℕ → ℕ → List ℕ
nth_bin cells stride k = run cells (k * stride) stride

-- the score of candidate k
abbrev pub scored_at : List ℕ → List ℕ → ℕ → List Lane → ℕ → ℕ → List ℤ → List Float → ℕ → model.Score singles
scored_at cells node alphabet lanes stride total cands logs k = scored_bin (nth_bin cells stride k) node alphabet lanes total logs (get_or cands k (pos 0))

-- the first of the lowest scores of the first n candidates
unfoldable pub scored_to : (ℕ → model.Score singles) → ℕ → model.Score singles
scored_to f zero = model.nothing
scored_to f (suc n) = model.lower (scored_to f n) (f n)

-- what `extras_of` asks: 14 histograms of few rows, and at most 14 side predictors
pub record ExtrasFit (node : List ℕ) (alphabet : ℕ) (lanes : List Lane) : Type 0 where
  pub room : length node ≡ toks_per_row * alphabet
  pub tokens : alphabet ≤ 256
  pub pred : (j : ℕ) → j < length lanes → (lane_of lanes j).pred < toks_per_row
  pub rows : (p : ℕ) → p < toks_per_row → rows_in (part alphabet p node) ≤ max_rows
  pub few : length lanes ≤ toks_per_row

-- the extra bits of a node's rows under each side predictor
abbrev pub extras_in : List ℕ → ℕ → List Lane → List ℕ
extras_in node alphabet lanes = map (λ (l : Lane). extra_from 0 (part alphabet l.pred node)) lanes

-- a bin has its windows' counts of some of the node's rows
pub record BinReady (bin node : List ℕ) (alphabet : ℕ) (lanes : List Lane) (extras : List ℕ) (total : ℕ) (logs : List Float) : Type 0 where
  pub ready : Ready bin node alphabet lanes extras logs
  pub sized : size_at bin lanes ≤ total
  pub some : 0 < length lanes
  pub size_there : (lane_of lanes 0).width ≤ length bin
  pub small : total ≤ max_rows
  pub reach : total < length logs

-- each bin has its windows' counts
pub record Binned (cells node : List ℕ) (alphabet : ℕ) (lanes : List Lane) (extras : List ℕ) (stride total bins : ℕ) (logs : List Float) : Type 0 where
  pub each : (k : ℕ) → k < bins → BinReady (nth_bin cells stride k) node alphabet lanes extras total logs
  pub room : bins * stride ≤ length cells
