-- The windows of side predictors as C lends them: a list of the first tokens, and a list of where the windows start
-- among the packed ones, and behind the last start the length of a bin. Both may be longer. Assumes nothing.
use Rattle.std.specs.Prelude.{◌≡◌, List, map, ℕ, suc, ◌+◌, ◌-◌, ◌*◌, ◌≤◌, ◌<◌, length, get_or}
use Rattle.model.specs.Lists.{range}
use Rattle.model.specs.Settings.{toks_per_row}
use Rattle.score_windows.specs.declared.Lane.{Lane}
use Rattle.score_windows.specs.Windows.{window_at, window_start}

-- `firsts` and `offs` have the first n windows
pub record Packed (node : List ℕ) (alphabet : ℕ) (preds firsts offs : List ℕ) (n : ℕ) : Type 0 where
  pub first : (j : ℕ) → j < n → get_or firsts j 0 ≡ (window_at node alphabet preds j).first
  pub start : (j : ℕ) → j ≤ n → get_or offs j 0 ≡ window_start node alphabet preds j

-- the width of window j
abbrev pub width_of : List ℕ → ℕ → ℕ
width_of offs j = get_or offs (suc j) 0 - get_or offs j 0

-- what `ostrovuc_set_windows` asks: 14 histograms, at most 14 side predictors, and room for their windows
pub record Windowable (node : List ℕ) (alphabet : ℕ) (preds firsts offs : List ℕ) : Type 0 where
  pub room : length node ≡ toks_per_row * alphabet
  pub tokens : alphabet ≤ 256
  pub pred : (j : ℕ) → j < length preds → get_or preds j 0 < toks_per_row
  pub few : length preds ≤ toks_per_row
  pub firsts_room : length preds ≤ length firsts
  pub offs_room : length preds < length offs

-- what `ostrovuc_set_windows` leaves: the first entries are the windows of all side predictors
pub record Windows (node : List ℕ) (alphabet : ℕ) (preds firsts offs : List ℕ) : Type 0 where
  pub windows : Packed node alphabet preds firsts offs (length preds)
  pub firsts_room : length preds ≤ length firsts
  pub offs_room : length preds < length offs

-- the lane that the lists' entries j make
unfoldable pub lane_in : List ℕ → List ℕ → List ℕ → ℕ → Lane
lane_in preds firsts offs j =
    record {
      pred = get_or preds j 0;
      first = get_or firsts j 0;
      width = width_of offs j;
      off = get_or offs j 0;
    }

-- the lanes of all side predictors
abbrev pub lanes_in : List ℕ → List ℕ → List ℕ → List Lane
lanes_in preds firsts offs = map (lane_in preds firsts offs) (range 0 (length preds))

-- what making the lanes asks: entries for at most 14 side predictors, and no start before the last one
pub record Listed (preds firsts offs : List ℕ) : Type 0 where
  pub few : length preds ≤ toks_per_row
  pub firsts_there : length preds ≤ length firsts
  pub offs_there : length preds < length offs
  pub ascend : (j : ℕ) → j < length preds → get_or offs j 0 ≤ get_or offs (j + 1) 0
