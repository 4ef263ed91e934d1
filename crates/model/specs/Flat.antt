-- Flat bits (document 01, "Flat bits"; the Rust's `flat_cost`). Assumes nothing.
use Rattle.std.specs.Prelude.{ℕ, min, List, [], ◌∷◌, ℤ, pos, negsuc, eqb}
use Rattle.model.specs.Lists.{range, keep}
use Rattle.model.specs.Meter.{Meter}
use Rattle.model.specs.Settings.{Settings}
use Rattle.model.specs.Rows.{Row, prop_of}
use Rattle.model.specs.Cost.{cost_of, best_predictor}

-- held to 0 to 3
abbrev pub clamped : ℤ → ℕ
clamped (pos n) = min n 3
clamped (negsuc n) = 0

-- the rows whose property 0 is held to c
abbrev pub group_of : ℕ → List Row → List Row
group_of c = keep (λ (r : Row). eqb (clamped (prop_of r 0)) c)

module _ {M : Meter} where
  -- an empty group is passed over
  abbrev pub with_group : Settings M → List M.Cost → M.Total → List Row → M.Total
  with_group t logs bits [] = bits
  with_group t logs bits (g ∷ gs) = M.add bits (M.total (cost_of t logs (g ∷ gs) (best_predictor t logs (g ∷ gs))))

  unfoldable pub flat_from : Settings M → List M.Cost → List Row → M.Total → List ℕ → M.Total
  flat_from t logs rows bits [] = bits
  flat_from t logs rows bits (c ∷ cs) = flat_from t logs rows (with_group t logs bits (group_of c rows)) cs

  unfoldable pub flat_bits : Settings M → List M.Cost → List Row → M.Total
  flat_bits t logs rows = flat_from t logs rows M.no_total (range 0 4)
