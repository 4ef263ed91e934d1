-- Flat bits from counts, as the code adds them up (document 01, "Flat bits"; the Rust's `flat_cost`). Assumes nothing.
use Rattle.std.specs.Prelude.{◌≡◌, Bool, false, cond, List, ℕ, zero, suc, ◌*◌, ◌≤◌, ◌<◌, eqb, ℤ, length, get_or, replicate, Float}
use Rattle.model.specs.Lists.{is_empty}
use Rattle.model.specs.Settings.{toks_per_row, max_rows}
use Rattle.model.specs.Rows.{rows_of}
use Rattle.model.specs.Single.{singles}
use Rattle.rows.specs.Flat.{Flat, row_count}
use Rattle.cost.specs.Counted.{LogsReach}
use Rattle.cost.specs.Histograms.{part}
use Rattle.cost.specs.Predictors.{usable_predictors, cost_at, cheapest_of, NodeCounted}
use Rattle.flat.specs.Groups.{group_histograms, group_sizes}

-- ---- counting

-- the tokens of the rows are there, and below the alphabet
pub record RowsFit (x : Flat) (alphabet : ℕ) : Type 0 where
  pub few : row_count x ≤ max_rows
  pub toks : row_count x * toks_per_row ≤ length x.toks
  pub below : (i : ℕ) → i < row_count x * toks_per_row → get_or x.toks i 0 < alphabet

-- room for the groups' counts, all 0
pub record GroupsEmpty (alphabet : ℕ) (hist sizes : List ℕ) : Type 0 where
  pub counts : hist ≡ replicate (56 * alphabet) 0
  pub rows : sizes ≡ replicate 4 0

-- what the groups of the rows count, whatever residuals stand beside
pub record CountsGroups (ps : List ℤ) (tok : List ℕ) (rows alphabet : ℕ) (hist sizes : List ℕ) : Type 0 where
  pub counts : (rs : List ℤ) → hist ≡ group_histograms alphabet (rows_of rows ps tok rs)
  pub rows_each : (rs : List ℤ) → sizes ≡ group_sizes (rows_of rows ps tok rs)

-- ---- adding up

-- the total with the lowest cost of a group of n rows; an empty group is passed over
unfoldable pub with_lowest : List ℕ → ℕ → ℕ → Bool → ℕ → List Float → Float → Float
with_lowest hist n alphabet weighted allowed logs bits =
    cond (eqb n 0) bits (singles.add bits (cheapest_of (cost_at hist n alphabet logs) (usable_predictors weighted allowed)).bits)

module _ (hist sizes : List ℕ) (alphabet : ℕ) (weighted : Bool) (allowed : ℕ) (logs : List Float) where
  -- the lowest cost of group g
  unfoldable pub group_bits : ℕ → Float
  group_bits g = (cheapest_of (cost_at (part (toks_per_row * alphabet) g hist) (get_or sizes g 0) alphabet logs) (usable_predictors weighted allowed)).bits

  -- the total with the lowest cost of group g; an empty group is passed over
  unfoldable pub with_group_bits : Float → ℕ → Float
  with_group_bits bits g = cond (eqb (get_or sizes g 0) 0) bits (singles.add bits (group_bits g))

  -- the lowest costs of the groups 0 to n - 1, added up
  unfoldable pub groups_bits : ℕ → Float
  groups_bits zero = singles.no_total
  groups_bits (suc n) = with_group_bits (groups_bits n) n

  -- 4 groups of 14 histograms, and some predictor may be used
  pub record GroupsCounted : Type 0 where
    pub room : length hist ≡ 56 * alphabet
    pub four : length sizes ≡ 4
    pub tokens : alphabet ≤ 256
    pub node : (g : ℕ) → g < 4 → NodeCounted (part (toks_per_row * alphabet) g hist) (get_or sizes g 0) alphabet logs
    pub some : is_empty (usable_predictors weighted allowed) ≡ false

-- ---- flat bits

-- all that `flat_cost` asks: rows, 56 × alphabet numbers that are 0, logarithms that reach, some predictor that may be used
pub record FlatFits (x : Flat) (alphabet : ℕ) (weighted : Bool) (allowed : ℕ) (logs : List Float) (hist : List ℕ) : Type 0 where
  pub rows_fit : RowsFit x alphabet
  pub tokens : alphabet ≤ 256
  pub reach : LogsReach (row_count x) logs
  pub some : is_empty (usable_predictors weighted allowed) ≡ false
  pub empty : hist ≡ replicate (56 * alphabet) 0
