-- The answer depends only on the logarithms 1 to the number of rows: entry 0 and the entries past the rows are never read, whatever the meter.
-- Assumes nothing.
use mathlib.Core.Path.{◌≡◌, refl, sym, ap, ◌∙◌, fun_ext}
use Prim.Native.Nat.{ℕ, zero, suc, ◌-◌, ◌≤◌, ◌<◌, max}
use native.Mathlib.Omega.{arith}
use mathlib.Core.Bool.{cond}
use mathlib.Core.List.{List, [], ◌∷◌}
use mathlib.Core.Option.{none}
use lib.ListN.{length, get_or, take, drop}
use lib.Seq.{get_or-take}
use lib.IntN.{ℤ, pos}
use lib.Dec.{eqb}
use Rattle.model.specs.Lists.{range}
use Rattle.model.specs.Meter.{Meter}
use Rattle.model.specs.Settings.{Settings}
use Rattle.model.specs.Rows.{Row}
use Rattle.model.specs.Cost.{histogram, extra_from, log_of, with_count, entropy_from, histogram_cost, first_cheapest, by_cost, cost_of, usable, best_predictor, side_predictors}
use Rattle.model.specs.Score.{Score, nothing, lowest_cost, side_cost, score_sides, score_at, score_from, score_of}
use Rattle.model.specs.Evaluate.{Best, best_from, best_split, offer_of, is_scored, info_of, offered}
use Rattle.model.specs.Flat.{with_group, flat_from, flat_bits}
use Rattle.model.proofs.Histogram.{sum_of, histogram-sum}
use Rattle.model.proofs.Keeping.{length_keep_le}

-- two lists of logarithms have the same entries 1 to n
abbrev pub Alike : (M : Meter) → ℕ → List M.Cost → List M.Cost → Type 0
Alike M n logs logs' = (c : ℕ) → 0 < c → c ≤ n → log_of M logs c ≡ log_of M logs' c

-- what a check reads of them
pub log_read : (M : Meter) (n : ℕ) (logs : List M.Cost) (c : ℕ) → 0 < c → c ≤ n → get_or (take n (drop 1 logs)) (c - 1) M.nought ≡ log_of M logs c
unfolding log_of
log_read M n logs c p k = search (arith, get_or-take)

pub read_alike : (M : Meter) (n : ℕ) (logs logs' : List M.Cost) → take n (drop 1 logs) ≡ take n (drop 1 logs') → Alike M n logs logs'
read_alike M n logs logs' e c p k = sym (log_read M n logs c p k) ∙ ap (λ (l : List M.Cost). get_or l (c - 1) M.nought) e ∙ log_read M n logs' c p k

module _ (M : Meter) (n : ℕ) (logs logs' : List M.Cost) (alike : Alike M n logs logs') where
  count-alike : (k : ℕ) (bits : M.Cost) (c : ℕ) → c ≤ k → k ≤ n → with_count M logs (log_of M logs k) bits c ≡ with_count M logs' (log_of M logs' k) bits c
  unfolding with_count
  count-alike k bits zero h l = refl
  count-alike k bits (suc c) h l = ap (λ (d : M.Cost). M.plus bits (M.times (suc c) d))
      (ap (λ (x : M.Cost). M.minus x (log_of M logs (suc c))) (alike k (omega arith) l) ∙ ap (M.minus (log_of M logs' k)) (alike (suc c) (omega arith) (omega arith)))

  entropy_alike : (k : ℕ) (bits : M.Cost) (cs : List ℕ) → sum_of cs ≤ k → k ≤ n → entropy_from M logs (log_of M logs k) bits cs ≡ entropy_from M logs' (log_of M logs' k) bits cs
  unfolding entropy_from
  entropy_alike k bits [] h l = refl
  entropy_alike k bits (c ∷ cs) h l =
      ap (λ (b : M.Cost). entropy_from M logs (log_of M logs k) b cs) (count-alike k bits c (omega arith) l) ∙ entropy_alike k (with_count M logs' (log_of M logs' k) bits c) cs (omega arith) l

  module _ (t : Settings M) where
    pub cost-alike : (rows : List Row) → length rows ≤ n → cost_of t logs rows ≡ cost_of t logs' rows
    unfolding cost_of histogram_cost
    cost-alike rows h = fun_ext (λ p. ap (λ (x : M.Cost). M.plus x (M.extra (extra_from 0 (histogram t.alphabet p rows))))
        (entropy_alike (length rows) M.nought (histogram t.alphabet p rows) (histogram-sum t.alphabet p rows) h))

    pub predictor-alike : (rows : List Row) → length rows ≤ n → best_predictor t logs rows ≡ best_predictor t logs' rows
    unfolding best_predictor
    predictor-alike rows h = ap (λ (cost : ℕ → M.Cost). first_cheapest M cost (usable t)) (cost-alike rows h)

    lowest-alike : (rows : List Row) → length rows ≤ n → cost_of t logs rows (best_predictor t logs rows) ≡ cost_of t logs' rows (best_predictor t logs' rows)
    lowest-alike rows h = λ i. cost-alike rows h i (predictor-alike rows h i)

    side_predictors_alike : (rows : List Row) → length rows ≤ n → side_predictors t logs rows ≡ side_predictors t logs' rows
    unfolding side_predictors
    side_predictors_alike rows h = ap (λ (cost : ℕ → M.Cost). take (max t.sides 1) (by_cost M cost (usable t))) (cost-alike rows h)

    pub info-alike : (mode : ℤ) (rows : List Row) → length rows ≤ n → info_of t logs mode rows ≡ info_of t logs' mode rows
    unfolding info_of
    info-alike mode rows h = λ i. record { cost = lowest-alike rows h i; pred = predictor-alike rows h i; offset = cond (eqb (predictor-alike rows h i) 0) mode (pos 0) }

    -- ---- scores
    pub side_alike : (ps : List ℕ) (rows : List Row) → length rows ≤ n → side_cost t logs ps rows ≡ side_cost t logs' ps rows
    unfolding side_cost
    side_alike ps rows h = ap (λ (cost : ℕ → M.Cost). lowest_cost M cost M.endless ps) (cost-alike rows h)

    score_sides_alike : (ps : List ℕ) (v : ℤ) (le gt : List Row) → length le ≤ n → length gt ≤ n → score_sides t logs ps v le gt ≡ score_sides t logs' ps v le gt
    unfolding score_sides
    score_sides_alike ps v [] gt h k = refl
    score_sides_alike ps v (x ∷ le) [] h k = refl
    score_sides_alike ps v (x ∷ le) (y ∷ gt) h k = rw (side_alike ps (x ∷ le) h, side_alike ps (y ∷ gt) k)

    score_at_alike : (ps : List ℕ) (q : ℕ) (rows : List Row) → length rows ≤ n → score_at t logs ps q rows ≡ score_at t logs' ps q rows
    unfolding score_at
    score_at_alike ps q rows h = search (arith, score_sides_alike, length_keep_le)

    pub score_alike : (ps : List ℕ) (q : ℕ) (rows : List Row) (cs : List ℤ) → length rows ≤ n → score_of t logs ps q rows cs ≡ score_of t logs' ps q rows cs
    unfolding score_of
    score_alike ps q rows cs h = ap (λ (score : ℤ → Score M). score_from score nothing cs) (score_at_alike ps q rows h)

    -- ---- offers
    best_from_alike : (ps : List ℕ) (rows : List Row) → length rows ≤ n → (best : Best M) (qs : List ℕ) → best_from t logs ps rows best qs ≡ best_from t logs' ps rows best qs
    unfolding best_from
    best_from_alike ps rows h best [] = refl
    best_from_alike ps rows h best (q ∷ qs) = search (arith, score_alike)

    best-alike : (rows : List Row) → length rows ≤ n → best_split t logs rows ≡ best_split t logs' rows
    unfolding best_split
    best-alike rows h = search (arith, side_predictors_alike, best_from_alike)

    pub offered-alike : (depth : ℕ) (cost : M.Cost) (rows : List Row) → length rows ≤ n → offered t logs depth cost rows ≡ offered t logs' depth cost rows
    unfolding offered
    offered-alike depth cost rows h = ap (λ (b : Best M). cond (is_scored t depth cost rows) (offer_of t cost b) none) (best-alike rows h)

    -- ---- flat bits
    group-alike : (bits : M.Total) (rows : List Row) → length rows ≤ n → with_group t logs bits rows ≡ with_group t logs' bits rows
    group-alike bits [] h = refl
    group-alike bits (r ∷ rs) h = ap (λ (x : M.Cost). M.add bits (M.total x)) (lowest-alike (r ∷ rs) h)

    flat_from_alike : (rows : List Row) → length rows ≤ n → (bits : M.Total) (cs : List ℕ) → flat_from t logs rows bits cs ≡ flat_from t logs' rows bits cs
    unfolding flat_from
    flat_from_alike rows h bits [] = refl
    flat_from_alike rows h bits (c ∷ cs) = search (arith, group-alike, length_keep_le)

    pub flat-alike : (rows : List Row) → length rows ≤ n → flat_bits t logs rows ≡ flat_bits t logs' rows
    unfolding flat_bits
    flat-alike rows h = flat_from_alike rows h M.no_total (range 0 4)
