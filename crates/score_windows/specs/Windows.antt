-- The windows of the side predictors in a node's histograms: of each the tokens from the first to the last that are counted, packed one after the
-- other (document 01, "Scoring"; the Rust's `SymbolWindow`). Assumes nothing.
use Rattle.std.specs.Prelude.{◌≡◌, cond, List, map, ℕ, zero, suc, ◌+◌, ◌-◌, ◌*◌, ◌≤◌, ◌<◌, eqb, length, get_or}
use Rattle.model.specs.Settings.{toks_per_row}
use Rattle.cost.specs.Histograms.{part}
use Rattle.score_windows.specs.declared.Lane.{Lane}

-- the tokens from `first` up to `end`; none: 0 and 0
pub record Window : Type 0 where
  pub first : ℕ
  pub end : ℕ

-- a window with one token more, if it is counted
unfoldable pub widened : Window → ℕ → ℕ → Window
widened w t c = cond (eqb c 0) w (cond (eqb w.end 0) (record { first = t; end = t + 1 }) (record { first = w.first; end = t + 1 }))

-- the window of the first n counts
unfoldable pub window_of : List ℕ → ℕ → Window
window_of hist zero = record { first = 0; end = 0 }
window_of hist (suc n) = widened (window_of hist n) n (get_or hist n 0)

-- the window of side predictor j
abbrev pub window_at : List ℕ → ℕ → List ℕ → ℕ → Window
window_at node alphabet preds j = window_of (part alphabet (get_or preds j 0) node) alphabet

-- where side predictor j's window starts among the packed ones
unfoldable pub window_start : List ℕ → ℕ → List ℕ → ℕ → ℕ
window_start node alphabet preds zero = 0
window_start node alphabet preds (suc j) = window_start node alphabet preds j + ((window_at node alphabet preds j).end - (window_at node alphabet preds j).first)

-- side predictor j with its window
unfoldable pub packed_lane : List ℕ → ℕ → List ℕ → ℕ → Lane
packed_lane node alphabet preds j =
    record {
      pred = get_or preds j 0;
      first = (window_at node alphabet preds j).first;
      width = (window_at node alphabet preds j).end - (window_at node alphabet preds j).first;
      off = window_start node alphabet preds j;
    }

-- what is read where there is no lane
abbrev pub no_lane : Lane
no_lane = record { pred = 0; first = 0; width = 0; off = 0 }

-- lane j
abbrev pub lane_of : List Lane → ℕ → Lane
lane_of lanes j = get_or lanes j no_lane

-- the side predictors of lanes
abbrev pub preds_of : List Lane → List ℕ
preds_of lanes = map (λ (l : Lane). l.pred) lanes

-- the first n lanes are the windows of the side predictors
abbrev pub Packed : List ℕ → ℕ → List ℕ → List Lane → ℕ → Type 0
Packed node alphabet preds lanes n = (j : ℕ) → j < n → lane_of lanes j ≡ packed_lane node alphabet preds j

-- what `set_windows` asks: 14 histograms, and at most 14 side predictors
pub record Windowable (node : List ℕ) (alphabet : ℕ) (preds : List ℕ) : Type 0 where
  pub room : length node ≡ toks_per_row * alphabet
  pub tokens : alphabet ≤ 256
  pub pred : (j : ℕ) → j < length preds → get_or preds j 0 < toks_per_row
  pub few : length preds ≤ toks_per_row

-- what `set_windows` leaves: the windows of all side predictors, and a bin ends with the last
pub record Windows (node : List ℕ) (alphabet : ℕ) (lanes : List Lane) (stride : ℕ) : Type 0 where
  pub packed : Packed node alphabet (preds_of lanes) lanes (length lanes)
  pub end : stride ≡ window_start node alphabet (preds_of lanes) (length lanes)
