-- Each side's lowest cost over the side predictors, from a bin that counts one side (document 01, "Scoring": the lowest over the side predictors). Assumes
-- nothing.
use Rattle.std.specs.Prelude.{◌≡◌, List, ℕ, zero, suc, ◌+◌, ◌*◌, ◌≤◌, ◌<◌, length, get_or, take, drop, Float}
use Rattle.model.specs.Cost.{extra_from}
use Rattle.score_windows.specs.declared.Lane.{Lane}
use Rattle.score_windows.specs.Windows.{lane_of}
use Rattle.score_sides.specs.declared.Sides.{Sides}
use Rattle.score_sides.specs.Sides.{costs_of, lower_sides, no_sides, SideCounted}

-- n numbers from `at` on
abbrev pub run : List ℕ → ℕ → ℕ → List ℕ
run cells at n = take n (drop at cells)

-- both sides' costs under a lane's predictor, from a bin
unfoldable pub lane_costs : List ℕ → List ℕ → ℕ → Sides → List Float → Lane → Sides
lane_costs bin node alphabet side_logs logs lane =
    costs_of (run bin lane.off lane.width) (run node (lane.pred * alphabet + lane.first) lane.width) lane.first side_logs logs

-- both sides' costs under side predictor j
abbrev pub costs_at : List ℕ → List ℕ → ℕ → List Lane → Sides → List Float → ℕ → Sides
costs_at bin node alphabet lanes side_logs logs j = lane_costs bin node alphabet side_logs logs (lane_of lanes j)

-- on each side the lowest cost over the first n side predictors
unfoldable pub lowest_to : (ℕ → Sides) → ℕ → Sides
lowest_to f zero = no_sides
lowest_to f (suc n) = lower_sides (lowest_to f n) (f n)

-- the bin has the lane's counts, of which the node has so many extra bits
pub record LaneReady (bin node : List ℕ) (alphabet : ℕ) (lane : Lane) (bits : ℕ) (logs : List Float) : Type 0 where
  pub in_bin : lane.off + lane.width ≤ length bin
  pub in_node : lane.pred * alphabet + lane.first + lane.width ≤ length node
  pub top : lane.first + lane.width ≤ 256
  pub extra : bits ≡ extra_from lane.first (run node (lane.pred * alphabet + lane.first) lane.width)
  pub counted : SideCounted (run bin lane.off lane.width) (run node (lane.pred * alphabet + lane.first) lane.width) logs

-- the bin has its windows' counts
pub record Ready (bin node : List ℕ) (alphabet : ℕ) (lanes : List Lane) (extras : List ℕ) (logs : List Float) : Type 0 where
  pub extras_room : length lanes ≤ length extras
  pub each : (j : ℕ) → j < length lanes → LaneReady bin node alphabet (lane_of lanes j) (get_or extras j 0) logs
