-- A span's rows counted by the bin of a property and by token: bin after bin, in each the windows of the side predictors, and in each window the
-- tokens (document 01, "Scoring"; the Rust's `scan_split_plans`). Assumes nothing.
use Rattle.std.specs.Prelude.{◌≡◌, true, List, ℕ, zero, suc, ◌+◌, ◌-◌, ◌*◌, ◌≤◌, ◌<◌, ℤ, pos, length, get_or, set}
use Rattle.std.specs.Int.Signed.{lt_z}
use Rattle.model.specs.Lists.{count_if}
use Rattle.model.specs.Settings.{props_per_row, toks_per_row, max_rows}
use Rattle.cost.specs.Histograms.{tallied}
use Rattle.score_windows.specs.declared.Lane.{Lane}
use Rattle.score_windows.specs.Windows.{lane_of}

-- one more in the cells f k 0, .., f k (lanes - 1) of each of n rows
unfoldable pub tallied_rows : (ℕ → ℕ → ℕ) → ℕ → ℕ → List ℕ → List ℕ
tallied_rows f lanes zero cells = cells
tallied_rows f lanes (suc n) cells = tallied (f n) lanes (tallied_rows f lanes n cells)

-- to each of n cells from `stride` on the one that stands `stride` before it, in ascending order
unfoldable pub summed : ℕ → ℕ → List ℕ → List ℕ
summed stride zero cells = cells
summed stride (suc n) cells = let d = summed stride n cells in set d (stride + n) (get_or d (stride + n) 0 + get_or d n 0)

-- the bin of a value: how many candidates lie below it
unfoldable pub bin_of : List ℤ → ℤ → ℕ
bin_of cands v = count_if (λ (c : ℤ). lt_z c v) cands

-- the bin of a row, by its property `prop`
unfoldable pub bin_at : List ℤ → ℕ → List ℤ → ℕ → ℕ
bin_at cands prop ps row = bin_of cands (get_or ps (row * props_per_row + prop) (pos 0))

-- the cell of one of a row's tokens in its window, in the bin that starts at `base`
abbrev pub place_in : Lane → List ℕ → ℕ → ℕ
place_in lane toks base = base + lane.off + (get_or toks lane.pred 0 - lane.first)

-- the cell of a row's token in the window of side predictor j, in the bin that starts at `base`
abbrev pub lane_cell : List ℕ → List Lane → ℕ → ℕ → ℕ
lane_cell toks lanes base j = place_in (lane_of lanes j) toks base

-- the cell of the span's row k in the window of side predictor j, in the row's own bin
abbrev pub bin_cell : List ℤ → List ℕ → ℕ → ℕ → List ℤ → List Lane → ℕ → ℕ → ℕ → ℕ
bin_cell ps tok first prop cands lanes stride k j =
    bin_at cands prop ps (first + k) * stride + (lane_of lanes j).off + (get_or tok ((first + k) * toks_per_row + (lane_of lanes j).pred) 0 - (lane_of lanes j).first)

-- strictly ascending candidates
abbrev pub Ascends : List ℤ → Type 0
Ascends cands = (i : ℕ) → suc i < length cands → lt_z (get_or cands i (pos 0)) (get_or cands (suc i) (pos 0)) ≡ true

-- no cell is above m
abbrev pub Low : ℕ → List ℕ → Type 0
Low m cells = (i : ℕ) → get_or cells i 0 ≤ m

-- the lists hold the span's n rows
pub record RowsThere (ps : List ℤ) (tok : List ℕ) (first n : ℕ) : Type 0 where
  pub few : n ≤ max_rows
  pub props : (first + n) * props_per_row ≤ length ps
  pub toks : (first + n) * toks_per_row ≤ length tok

-- a row's token lies in the window, and its cell is there and not full
pub record TokenFits (toks : List ℕ) (lane : Lane) (base : ℕ) (cells : List ℕ) : Type 0 where
  pub pred : lane.pred < length toks
  pub from : lane.first ≤ get_or toks lane.pred 0
  pub room : place_in lane toks base < length cells
  pub low : get_or cells (place_in lane toks base) 0 < 4294967295

-- a row's tokens lie in the windows, and their cells are there
pub record InLanes (toks : List ℕ) (lanes : List Lane) (base size : ℕ) : Type 0 where
  pub few : length lanes ≤ toks_per_row
  pub pred : (j : ℕ) → j < length lanes → (lane_of lanes j).pred < length toks
  pub from : (j : ℕ) → j < length lanes → (lane_of lanes j).first ≤ get_or toks (lane_of lanes j).pred 0
  pub room : (j : ℕ) → j < length lanes → lane_cell toks lanes base j < size

-- at most 14 windows, one after the other, in which the tokens of the span's rows lie
pub record Lanes (tok : List ℕ) (first n : ℕ) (lanes : List Lane) (stride : ℕ) : Type 0 where
  pub few : length lanes ≤ toks_per_row
  pub pred : (j : ℕ) → j < length lanes → (lane_of lanes j).pred < toks_per_row
  pub next : (j : ℕ) → suc j < length lanes → (lane_of lanes j).off + (lane_of lanes j).width ≤ (lane_of lanes (suc j)).off
  pub last : (j : ℕ) → suc j ≡ length lanes → (lane_of lanes j).off + (lane_of lanes j).width ≤ stride
  pub from : (k j : ℕ) → k < n → j < length lanes → (lane_of lanes j).first ≤ get_or tok ((first + k) * toks_per_row + (lane_of lanes j).pred) 0
  pub below : (k j : ℕ) → k < n → j < length lanes
      → get_or tok ((first + k) * toks_per_row + (lane_of lanes j).pred) 0 < (lane_of lanes j).first + (lane_of lanes j).width

-- no sum on the way is too large
abbrev pub SumsLow : ℕ → ℕ → List ℕ → Type 0
SumsLow stride n cells = (k : ℕ) → k < n → get_or (summed stride k cells) (stride + k) 0 + get_or (summed stride k cells) k 0 ≤ 4000000000
