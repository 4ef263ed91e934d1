-- The best threshold of one property (document 01, "Scoring"; the Rust's `score_split_plan`). Assumes nothing.
use Rattle.std.specs.Prelude.{ℕ, cond, not, List, [], ◌∷◌, length, ℤ}
use Rattle.model.specs.Lists.{keep}
use Rattle.model.specs.Meter.{Meter}
use Rattle.model.specs.Settings.{Settings}
use Rattle.model.specs.Rows.{Row, is_above}
use Rattle.model.specs.Cost.{cost_of}

-- a score is either nothing to offer, or a threshold with its cost in bits and the number of rows on its le side (02, a)
pub data Score (M : Meter) : Type 0 where
  nothing : Score M
  threshold : ℤ → M.Cost → ℕ → Score M

-- the lower of the cost so far and the predictors' costs
unfoldable pub lowest_cost : (M : Meter) → (ℕ → M.Cost) → M.Cost → List ℕ → M.Cost
lowest_cost M cost best [] = best
lowest_cost M cost best (p ∷ ps) = lowest_cost M cost (cond (M.less (cost p) best) (cost p) best) ps

module _ {M : Meter} where
  -- the first of the lower
  abbrev pub lower : Score M → Score M → Score M
  lower nothing s = s
  lower (threshold v c m) nothing = threshold v c m
  lower (threshold v c m) (threshold w d n) = cond (M.less d c) (threshold w d n) (threshold v c m)

  -- a side takes its lowest cost over the side predictors
  unfoldable pub side_cost : Settings M → List M.Cost → List ℕ → List Row → M.Cost
  side_cost t logs ps rows = lowest_cost M (cost_of t logs rows) M.endless ps

  -- of the rows at most the value, and those above it: a threshold with an empty side is skipped
  unfoldable pub score_sides : Settings M → List M.Cost → List ℕ → ℤ → List Row → List Row → Score M
  score_sides t logs ps val [] gt = nothing
  score_sides t logs ps val (l ∷ ls) [] = nothing
  score_sides t logs ps val (l ∷ ls) (g ∷ gs) =
      threshold val (M.plus (side_cost t logs ps (l ∷ ls)) (side_cost t logs ps (g ∷ gs))) (length (l ∷ ls))

  unfoldable pub score_at : Settings M → List M.Cost → List ℕ → ℕ → List Row → ℤ → Score M
  score_at t logs ps prop rows val = score_sides t logs ps val (keep (λ (r : Row). not (is_above prop val r)) rows) (keep (is_above prop val) rows)

  -- the first of the lowest: of `best`, and of the candidates in their order
  unfoldable pub score_from : (ℤ → Score M) → Score M → List ℤ → Score M
  score_from score best [] = best
  score_from score best (c ∷ cs) = score_from score (lower best (score c)) cs

  unfoldable pub score_of : Settings M → List M.Cost → List ℕ → ℕ → List Row → List ℤ → Score M
  score_of t logs ps prop rows cs = score_from (score_at t logs ps prop rows) nothing cs
