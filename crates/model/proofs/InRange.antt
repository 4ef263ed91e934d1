-- Evaluation stays in range, whatever the meter: a leaf's predictor is below 14, and usable if any is; an offered threshold is a candidate of a
-- property below 24, with the number of rows at or under it, which is neither 0 nor all. Assumes nothing.
use mathlib.Core.Path.{◌≡◌, refl, sym, ap, ◌∙◌}
use Prim.Native.Nat.{ℕ, ◌<◌}
use native.Mathlib.Omega.{arith}
use mathlib.Core.Bool.{Bool, true, false, cond, not, true≢false}
use mathlib.Core.List.{List, [], ◌∷◌, Memᴰ}
use mathlib.Core.Option.{Option, none, some}
use lib.ListN.{length}
use lib.IntN.{ℤ}
use lib.Dec.{T, ltb}
use lib.Ieee.Fits.{and_i, and_l, and_r}
use Rattle.model.specs.Lists.{range, keep, all, is_empty}
use Rattle.model.specs.Meter.{Meter}
use Rattle.model.specs.Settings.{Settings, props_per_row, toks_per_row}
use Rattle.model.specs.Rows.{Row, is_above}
use Rattle.model.specs.Cost.{cheapest, first_cheapest, cost_of, is_usable, usable, best_predictor, side_predictors}
use Rattle.model.specs.Score.{Score, nothing, threshold, lower, side_cost, score_sides, score_at, score_from, score_of}
use Rattle.model.specs.Evaluate.{Best, nowhere, at, better, property_order, plan_of, is_repeated, best_from, best_split, offer_of, info_of, offered}
use Rattle.model.specs.Job.{Offer}
use Rattle.model.specs.Accepting.{rows_below, OfferFits}
use Rattle.model.proofs.Counting.{length-keep}
use Rattle.model.proofs.Keeping.{count-not, all_keep, all-kept}

-- ---- properties
abbrev pub is_property : ℕ → Bool
is_property q = ltb q props_per_row

order-fits : (weighted : Bool) → T (all is_property (property_order weighted))
unfolding property_order
order-fits true = tt
order-fits false = tt

-- ---- predictors
-- the chosen one passes a test that all of them pass
cheapest-passes : (M : Meter) (cost : ℕ → M.Cost) (test : ℕ → Bool) (p : ℕ) (ps : List ℕ) → T (all test (p ∷ ps)) → T (test (cheapest M cost p ps))
unfolding cheapest
cheapest-passes M cost test p [] t = and_l (test p) true t
cheapest-passes M cost test p (q ∷ qs) t = cheapest-passes M cost test (cond (M.less (cost q) (cost p)) q p) qs (go (M.less (cost q) (cost p)))
  where
    rest : T (all test (q ∷ qs))
    rest = and_r (test p) (all test (q ∷ qs)) t

    go : (b : Bool) → T (all test (cond b q p ∷ qs))
    go true = rest
    go false = and_i (test p) (all test qs) (and_l (test p) (all test (q ∷ qs)) t) (and_r (test q) (all test qs) rest)

module _ {M : Meter} where
  predictor-fits : (t : Settings M) (logs : List M.Cost) (rows : List Row) → T (ltb (best_predictor t logs rows) toks_per_row)
  unfolding best_predictor usable
  predictor-fits t logs rows = go (usable t) (all_keep (λ (p : ℕ). ltb p toks_per_row) (is_usable t) (range 0 toks_per_row) tt)
    where
      go : (ps : List ℕ) → T (all (λ (p : ℕ). ltb p toks_per_row) ps) → T (ltb (first_cheapest M (cost_of t logs rows) ps) toks_per_row)
      go [] u = tt
      go (p ∷ ps) u = cheapest-passes M (cost_of t logs rows) (λ (p : ℕ). ltb p toks_per_row) p ps u

  -- where one is left, the chosen one is usable
  pub predictor-usable : (t : Settings M) (logs : List M.Cost) (rows : List Row) → is_empty (usable t) ≡ false → T (is_usable t (best_predictor t logs rows))
  unfolding best_predictor usable
  predictor-usable t logs rows = go (usable t) (all-kept (is_usable t) (range 0 toks_per_row))
    where
      go : (ps : List ℕ) → T (all (is_usable t) ps) → is_empty ps ≡ false → T (is_usable t (first_cheapest M (cost_of t logs rows) ps))
      go [] u e = absurd (true≢false e)
      go (p ∷ ps) u e = cheapest-passes M (cost_of t logs rows) (is_usable t) p ps u

  pub info-fits : (t : Settings M) (logs : List M.Cost) (mode : ℤ) (rows : List Row) → T (ltb (info_of t logs mode rows).pred toks_per_row)
  unfolding info_of
  info-fits t logs mode rows = predictor-fits t logs rows

-- ---- what a node offers
module _ {M : Meter} (t : Settings M) (logs : List M.Cost) (rows : List Row) where
  -- the cost of both sides of a threshold
  abbrev pub cost_at : ℕ → ℤ → M.Cost
  cost_at q v =
      let cost = side_cost t logs (side_predictors t logs rows) in
      M.plus (cost (keep (λ (r : Row). not (is_above q v r)) rows)) (cost (keep (is_above q v) rows))

  -- v is a candidate of property q, c is its cost, and n rows are at or under it, neither none nor all
  pub record Scored (q : ℕ) (v : ℤ) (c : M.Cost) (n : ℕ) : Type 0 where
    pub candidate : Memᴰ v (plan_of t rows q)
    pub cost : c ≡ cost_at q v
    pub below : n ≡ rows_below q v rows
    pub some_below : 0 < n
    pub not_all : n < length rows

  abbrev IsScore : ℕ → Score M → Type 0
  IsScore q nothing = Unit {0}
  IsScore q (threshold v c n) = Scored q v c n

  score_at_is : (q : ℕ) (v : ℤ) → Memᴰ v (plan_of t rows q) → IsScore q (score_at t logs (side_predictors t logs rows) q rows v)
  unfolding score_at score_sides
  score_at_is q v m = go (keep (λ (r : Row). not (is_above q v r)) rows) (keep (is_above q v) rows) refl refl
    where
      go : (le gt : List Row) → keep (λ (r : Row). not (is_above q v r)) rows ≡ le → keep (is_above q v) rows ≡ gt → IsScore q (score_sides t logs (side_predictors t logs rows) v le gt)
      go [] gt l g = tt
      go (x ∷ le) [] l g = tt
      go (x ∷ le) (y ∷ gt) l g =
          let n = count-not (is_above q v) rows in
          let a = ap length g in
          let b = ap length l in
          let ka = length-keep (is_above q v) rows in
          let kb = length-keep (λ (r : Row). not (is_above q v r)) rows in
          record {
            candidate = m;
            cost = λ i. M.plus (side_cost t logs (side_predictors t logs rows) (sym l i)) (side_cost t logs (side_predictors t logs rows) (sym g i));
            below = sym b ∙ kb;
            some_below = omega arith;
            not_all = omega arith;
          }

  lower-is : (q : ℕ) (s u : Score M) → IsScore q s → IsScore q u → IsScore q (lower s u)
  lower-is q nothing u f g = g
  lower-is q (threshold v c m) nothing f g = f
  lower-is q (threshold v c m) (threshold w d n) f g = grind arith

  score_from_is : (q : ℕ) (score : ℤ → Score M) (best : Score M) (cs : List ℤ) → ((v : ℤ) → Memᴰ v cs → IsScore q (score v)) → IsScore q best → IsScore q (score_from score best cs)
  unfolding score_from
  score_from_is q score best [] each f = f
  score_from_is q score best (c ∷ cs) each f = score_from_is q score (lower best (score c)) cs (λ v m. each v (Memᴰ.tail m)) (lower-is q best (score c) f (each c (Memᴰ.head refl)))

  score_is_lem : (q : ℕ) → IsScore q (score_of t logs (side_predictors t logs rows) q rows (plan_of t rows q))
  unfolding score_of
  score_is_lem q = score_from_is q (score_at t logs (side_predictors t logs rows) q rows) nothing (plan_of t rows q) (score_at_is q) tt

  abbrev IsBest : Best M → Type 0
  IsBest nowhere = Unit {0}
  IsBest (at q v c n) = T (is_property q) × Scored q v c n

  better-is : (b : Best M) (q : ℕ) (s : Score M) → T (is_property q) → IsScore q s → IsBest b → IsBest (better b q s)
  better-is b q nothing i f g = g
  better-is nowhere q (threshold v c n) i f g = (i, f)
  better-is (at p w d m) q (threshold v c n) i f g = grind arith

  best_from_is : (best : Best M) (qs : List ℕ) → T (all is_property qs) → IsBest best → IsBest (best_from t logs (side_predictors t logs rows) rows best qs)
  unfolding best_from
  best_from_is best [] i f = f
  best_from_is best (q ∷ qs) i f =
      best_from_is (cond (is_repeated t rows q) best (better best q (score_of t logs (side_predictors t logs rows) q rows (plan_of t rows q)))) qs (and_r (is_property q) (all is_property qs) i) (go (is_repeated t rows q))
    where
      go : (b : Bool) → IsBest (cond b best (better best q (score_of t logs (side_predictors t logs rows) q rows (plan_of t rows q))))
      go true = f
      go false = better-is best q (score_of t logs (side_predictors t logs rows) q rows (plan_of t rows q)) (and_l (is_property q) (all is_property qs) i) (score_is_lem q) f

  best-is : IsBest (best_split t logs rows)
  unfolding best_split
  best-is = best_from_is nowhere (property_order t.weighted) (order-fits t.weighted) tt

  -- an offer of a node that costs so much
  pub record Offers (cost : M.Cost) (o : Offer M) : Type 0 where
    pub property : T (is_property o.prop)
    pub bits : M.Cost
    pub scored : Scored o.prop o.val bits o.below
    pub gain : o.gain ≡ M.minus (M.minus cost bits) t.split_cost
    pub gains : T (M.less M.nought o.gain)

  abbrev pub IsOffer : M.Cost → Option (Offer M) → Type 0
  IsOffer cost none = Unit {0}
  IsOffer cost (some o) = Offers cost o

  offer_of_is : (cost : M.Cost) (b : Best M) → IsBest b → IsOffer cost (offer_of t cost b)
  unfolding offer_of
  offer_of_is cost nowhere f = tt
  offer_of_is cost (at q v c n) f = grind arith

  pub offered-is : (depth : ℕ) (cost : M.Cost) → IsOffer cost (offered t logs depth cost rows)
  unfolding offered
  offered-is depth cost = search (arith, offer_of_is, best-is)

  pub offered-fits : (depth : ℕ) (cost : M.Cost) → OfferFits rows (offered t logs depth cost rows)
  offered-fits depth cost = search (arith, offered-is)
