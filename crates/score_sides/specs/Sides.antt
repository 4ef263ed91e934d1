-- The costs of the two sides of a threshold under one predictor, from the counts of one side and of the node (document 01, "Scoring": a side's
-- cost). Assumes nothing.
use Rattle.std.specs.Prelude.{◌≡◌, cond, List, [], ◌∷◌, ℕ, ◌-◌, ◌≤◌, ◌<◌, length, get_or, Float}
use Rattle.model.specs.Settings.{max_rows}
use Rattle.model.specs.Single.{singles}
use Rattle.model.specs.Cost.{entropy_from, extra_from}
use Rattle.cost.specs.Counted.{rows_in}
use Rattle.score_sides.specs.declared.Sides.{Sides}

-- the node's counts without those of one side
unfoldable pub rest : List ℕ → List ℕ → List ℕ
rest [] ls = []
rest (n ∷ ns) [] = []
rest (n ∷ ns) (l ∷ ls) = (n - l) ∷ rest ns ls

-- both sides' entropies: count × (log of side − log of count), in ascending token order
unfoldable pub entropies_of : List ℕ → List ℕ → Sides → List Float → Sides
entropies_of left node side_logs logs =
    record { le = entropy_from singles logs side_logs.le singles.nought left; gt = entropy_from singles logs side_logs.gt singles.nought (rest node left) }

-- both sides' costs: the entropy, then the extra bits
unfoldable pub costs_of : List ℕ → List ℕ → ℕ → Sides → List Float → Sides
costs_of left node first side_logs logs =
    record {
      le = singles.plus (entropy_from singles logs side_logs.le singles.nought left) (singles.extra (extra_from first left));
      gt = singles.plus (entropy_from singles logs side_logs.gt singles.nought (rest node left)) (singles.extra (extra_from first (rest node left)));
    }

-- the lower cost, the first at a tie
abbrev pub lower_cost : Float → Float → Float
lower_cost best next = cond (singles.less next best) next best

-- the lower cost on each side
abbrev pub lower_sides : Sides → Sides → Sides
lower_sides best next = record { le = lower_cost best.le next.le; gt = lower_cost best.gt next.gt }

-- before any predictor: no cost is above these
abbrev pub no_sides : Sides
no_sides = record { le = singles.endless; gt = singles.endless }

-- a side's counts are within the node's, which are few, and the logarithms reach them
pub record SideCounted (left node : List ℕ) (logs : List Float) : Type 0 where
  pub long : length node ≡ length left
  pub under : (t : ℕ) → get_or left t 0 ≤ get_or node t 0
  pub small : rows_in node ≤ max_rows
  pub reach : rows_in node < length logs
