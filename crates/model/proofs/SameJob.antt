-- The leaf limit is no part of a job, and settling no part of its evaluation: a node and the flat total do not look at them. Assumes nothing.
use native.Mathlib.Omega.{arith}
use mathlib.Core.Path.{◌≡◌, refl, ap, fun_ext}
use Prim.Native.Nat.{ℕ}
use mathlib.Core.Bool.{Bool, cond, not}
use mathlib.Core.List.{List, [], ◌∷◌}
use mathlib.Core.Option.{Option, none, some}
use lib.IntN.{ℤ}
use Rattle.model.specs.Lists.{keep}
use Rattle.model.specs.Meter.{Meter}
use Rattle.model.specs.Settings.{Settings, with_limit, with_settling}
use Rattle.model.specs.Rows.{Row, is_above}
use Rattle.model.specs.Job.{Job}
use Rattle.model.specs.Cost.{cost_of, usable, best_predictor, side_predictors}
use Rattle.model.specs.Score.{Score, nothing, side_cost, score_sides, score_at, score_from, score_of}
use Rattle.model.specs.Evaluate.{property_order, twin, Best, nowhere, at, better, plan_of, repeats, is_repeated, best_from, best_split, offer_of, is_scored, info_of, offered}
use Rattle.model.specs.Flat.{group_of, with_group, flat_from, flat_bits}
use Rattle.model.specs.Profile.{Profile, job_of}

-- a job with settling on or off
abbrev pub settling_as : {M : Meter} → Bool → Job M → Job M
settling_as b j = record { uses = j.uses; info = j.info; offered = j.offered; ahead = j.ahead; flat = j.flat; price = j.price; settling = b }

module _ {M : Meter} (t : Settings M) (k : ℕ) (b : Bool) (logs : List M.Cost) where
  abbrev other : Settings M
  other = with_settling b (with_limit k t)

  same-sides : (ps : List ℕ) (val : ℤ) (le gt : List Row) → score_sides other logs ps val le gt ≡ score_sides t logs ps val le gt
  unfolding score_sides side_cost cost_of
  same-sides ps val [] gt = refl
  same-sides ps val (l ∷ ls) [] = refl
  same-sides ps val (l ∷ ls) (g ∷ gs) = refl

  same_score : (ps : List ℕ) (q : ℕ) (rows : List Row) (cs : List ℤ) → score_of other logs ps q rows cs ≡ score_of t logs ps q rows cs
  unfolding score_of score_at
  same_score ps q rows cs = ap (λ (f : ℤ → Score M). score_from f nothing cs)
      (fun_ext (λ val. same-sides ps val (keep (λ (r : Row). not (is_above q val r)) rows) (keep (is_above q val) rows)))

  same-repeats : (rows : List Row) (q : ℕ) (twin : Option ℕ) → repeats other rows q twin ≡ repeats t rows q twin
  unfolding plan_of
  same-repeats rows q none = refl
  same-repeats rows q (some a) = refl

  same-best : (ps : List ℕ) (rows : List Row) (best : Best M) (qs : List ℕ) → best_from other logs ps rows best qs ≡ best_from t logs ps rows best qs
  unfolding best_from is_repeated plan_of
  same-best ps rows best [] = refl
  same-best ps rows best (q ∷ qs) = rw (same-repeats rows q (twin q), same_score ps q rows (plan_of t rows q)) (same-best ps rows (cond (repeats t rows q (twin q)) best (better best q (score_of t logs ps q rows (plan_of t rows q)))) qs)

  same-offer : (cost : M.Cost) (best : Best M) → offer_of other cost best ≡ offer_of t cost best
  unfolding offer_of
  same-offer cost nowhere = refl
  same-offer cost (at q v c n) = refl

  same-group : (bits : M.Total) (rows : List Row) → with_group other logs bits rows ≡ with_group t logs bits rows
  unfolding best_predictor usable cost_of
  same-group bits [] = refl
  same-group bits (g ∷ gs) = refl

  same-flat : (rows : List Row) (bits : M.Total) (cs : List ℕ) → flat_from other logs rows bits cs ≡ flat_from t logs rows bits cs
  unfolding flat_from
  same-flat rows bits [] = refl
  same-flat rows bits (c ∷ cs) = rw (same-group bits (group_of c rows)) (same-flat rows (with_group t logs bits (group_of c rows)) cs)

  same-offered : (depth : ℕ) (cost : M.Cost) (rows : List Row) → offered other logs depth cost rows ≡ offered t logs depth cost rows
  unfolding offered is_scored best_split side_predictors usable cost_of
  same-offered depth cost rows = rw (same-best (side_predictors t logs rows) rows nowhere (property_order t.weighted), same-offer cost)

pub same-job : (P : Profile) (t : Settings P.meter) (logs : List P.meter.Cost) (uses : Bool) (k : ℕ) (b : Bool)
    → job_of P (with_settling b (with_limit k t)) logs uses ≡ settling_as b (job_of P t logs uses)
unfolding info_of best_predictor usable cost_of flat_bits
same-job P t logs uses k b = search (arith, same-offered, same-flat)
