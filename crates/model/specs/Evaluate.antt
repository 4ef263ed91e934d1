-- A node: its cost, predictor and offset, and the split that it offers (document 01, "A node"; the Rust's `evaluate_rows_typed`).
-- Assumes nothing.
use Rattle.std.specs.Prelude.{ℕ, Bool, false, cond, not, ◌&&◌, List, [], ◌∷◌, ◌++◌, map, length, ℤ, pos, eqb, leb, ltb}
use Rattle.std.proofs.Math.Option.{Option, none, some}
use Rattle.model.specs.Lists.{range, all, eq_z, is_empty}
use Rattle.model.specs.Meter.{Meter}
use Rattle.model.specs.Settings.{Settings, max_depth}
use Rattle.model.specs.Rows.{Row, prop_of}
use Rattle.model.specs.Candidates.{candidates_of}
use Rattle.model.specs.Cost.{cost_of, best_predictor, side_predictors}
use Rattle.model.specs.Score.{Score, nothing, threshold, score_of}
use Rattle.model.specs.Tree.{Info}
use Rattle.model.specs.Job.{Offer}

-- 0 to 14, 16 to 23, then 15 if weighted
unfoldable pub property_order : Bool → List ℕ
property_order weighted = range 0 15 ++ range 16 8 ++ cond weighted (15 ∷ []) []

-- the property that a property may repeat: 4, 5, 16, 18, 20, 22 for 6, 7, 17, 19, 21, 23
unfoldable pub twin : ℕ → Option ℕ
twin q =
    cond (eqb q 6) (some 4)
    (cond (eqb q 7) (some 5)
    (cond (eqb q 17) (some 16)
    (cond (eqb q 19) (some 18)
    (cond (eqb q 21) (some 20)
    (cond (eqb q 23) (some 22) none)))))

-- the best split so far: a property, a threshold, its cost, and the number of rows on the le side
pub data Best (M : Meter) : Type 0 where
  nowhere : Best M
  at : ℕ → ℤ → M.Cost → ℕ → Best M

module _ {M : Meter} where
  -- the candidates of property q
  unfoldable pub plan_of : Settings M → List Row → ℕ → List ℤ
  plan_of t rows q = candidates_of t.candidates (map (λ (r : Row). prop_of r q) rows)

  -- the twin was planned and equals it in each row
  abbrev pub repeats : Settings M → List Row → ℕ → Option ℕ → Bool
  repeats t rows q none = false
  repeats t rows q (some a) = not (is_empty (plan_of t rows a)) && all (λ (r : Row). eq_z (prop_of r a) (prop_of r q)) rows

  unfoldable pub is_repeated : Settings M → List Row → ℕ → Bool
  is_repeated t rows q = repeats t rows q (twin q)

  -- the first of the lowest over the properties
  abbrev pub better : Best M → ℕ → Score M → Best M
  better b q nothing = b
  better nowhere q (threshold v c n) = at q v c n
  better (at p w d m) q (threshold v c n) = cond (M.less c d) (at q v c n) (at p w d m)

  unfoldable pub best_from : Settings M → List M.Cost → List ℕ → List Row → Best M → List ℕ → Best M
  best_from t logs ps rows best [] = best
  best_from t logs ps rows best (q ∷ qs) =
      let scored = better best q (score_of t logs ps q rows (plan_of t rows q)) in
      best_from t logs ps rows (cond (is_repeated t rows q) best scored) qs

  unfoldable pub best_split : Settings M → List M.Cost → List Row → Best M
  best_split t logs rows = best_from t logs (side_predictors t logs rows) rows nowhere (property_order t.weighted)

  -- gain = (cost - first lowest score) - split cost, offered if above 0
  unfoldable pub offer_of : Settings M → M.Cost → Best M → Option (Offer M)
  offer_of t cost nowhere = none
  offer_of t cost (at q v c n) =
      let g = M.minus (M.minus cost c) t.split_cost in
      cond (M.less M.nought g) (some (record { prop = q; val = v; gain = g; below = n })) none

  -- scored if rows ≥ smallest node, depth < 26, cost > split cost
  unfoldable pub is_scored : Settings M → ℕ → M.Cost → List Row → Bool
  is_scored t depth cost rows = leb t.smallest (length rows) && (ltb depth max_depth && M.less t.split_cost cost)

  -- the lowest cost over usable predictors; offset = mode if predictor 0 wins, else 0. The rows' zero tokens are those of `mode`
  unfoldable pub info_of : Settings M → List M.Cost → ℤ → List Row → Info M
  info_of t logs mode rows =
      let p = best_predictor t logs rows in
      record { cost = cost_of t logs rows p; pred = p; offset = cond (eqb p 0) mode (pos 0) }

  unfoldable pub offered : Settings M → List M.Cost → ℕ → M.Cost → List Row → Option (Offer M)
  offered t logs depth cost rows =
      let o = offer_of t cost (best_split t logs rows) in
      cond (is_scored t depth cost rows) o none
