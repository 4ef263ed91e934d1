-- The fold over the properties, one at a time: what is left of it is the whole. Assumes nothing.
use mathlib.Core.Path.{◌≡◌, refl, sym, ap, ◌∙◌}
use mathlib.Core.Bool.{Bool, true, false, cond}
use mathlib.Core.List.{List, [], map}
use Prim.Native.Nat.{ℕ, ◌+◌, ◌<◌, ◌≤◌}
use native.Mathlib.Omega.{arith}
use lib.IntN.{ℤ}
use lib.Ieee.{Float, binary32, sub, lt}
use mathlib.Core.Option.{none, some}
use lib.ListN.{drop, drop_of_length-le}
use Rattle.model.specs.Lists.{range}
use Rattle.model.specs.Single.{singles}
use Rattle.model.specs.Settings.{Settings}
use Rattle.model.specs.Rows.{Row}
use Rattle.model.specs.Score.{Score as ModelScore, nothing, score_of, score_from}
use Rattle.model.specs.Evaluate.{Best, better, best_from, plan_of, is_repeated, offer_of}
use Rattle.model.proofs.Places.{length-each}
use Rattle.std.specs.Prelude as std
use Rattle.std.specs.Prelude.{Some, None}
use Rattle.evaluate.specs.declared.Split.{Split}
use Rattle.evaluate.specs.Best.{best_is}
use Rattle.evaluate.specs.Order.{order_at}
use Rattle.evaluate.proofs.Orders.{order-more}

module _ (t : Settings singles) (logs : List Float) (preds : List ℕ) (mine : List Row) (n : ℕ) where
  -- what the properties from place k on make of the best so far
  abbrev pub rest : Best singles → ℕ → Best singles
  rest b k = best_from t logs preds mine b (drop k (map order_at (range 0 n)))

  abbrev score_at_place : ℕ → ModelScore singles
  score_at_place k = score_of t logs preds (order_at k) mine (plan_of t mine (order_at k))

  module _ (b : Best singles) (k : ℕ) (h : k < n) where
    rest_more : rest b k ≡ rest (cond (is_repeated t mine (order_at k)) b (better b (order_at k) (score_at_place k))) (k + 1)
    unfolding best_from
    rest_more = ap (best_from t logs preds mine b) (order-more n k h)

    pub rest-skipped : is_repeated t mine (order_at k) ≡ true → rest b k ≡ rest b (k + 1)
    rest-skipped r = rest_more ∙ ap (λ (x : Bool). rest (cond x b (better b (order_at k) (score_at_place k))) (k + 1)) r

    pub rest-passed : plan_of t mine (order_at k) ≡ [] → rest b k ≡ rest b (k + 1)
    unfolding score_of score_from
    rest-passed e =
        rest_more ∙ ap (λ (s : ModelScore singles). rest (cond (is_repeated t mine (order_at k)) b (better b (order_at k) s)) (k + 1)) none
        ∙ ap (λ (x : Best singles). rest x (k + 1)) (either (is_repeated t mine (order_at k)))
      where
        none : score_at_place k ≡ nothing
        none = ap (λ (cs : List ℤ). score_of t logs preds (order_at k) mine cs) e

        either : (x : Bool) → cond x b b ≡ b
        either true = refl
        either false = refl

    pub rest-scored : is_repeated t mine (order_at k) ≡ false → (s : ModelScore singles) → s ≡ score_at_place k → rest b k ≡ rest (better b (order_at k) s) (k + 1)
    rest-scored r s e =
        rest_more ∙ ap (λ (x : Bool). rest (cond x b (better b (order_at k) (score_at_place k))) (k + 1)) r
        ∙ ap (λ (x : ModelScore singles). rest (better b (order_at k) x) (k + 1)) (sym e)

  pub rest_end : (b : Best singles) (k : ℕ) → n ≤ k → rest b k ≡ b
  unfolding best_from
  rest_end b k h = ap (best_from t logs preds mine b) (drop_of_length-le (map order_at (range 0 n)) {i = k} (omega (arith, length-each order_at 0 n)))

-- ---- what is offered

module _ (t : Settings singles) (cost : Float) where
  pub offered-none : {b : std.Option Split} → b ≡ None → none ≡ offer_of t cost (best_is b)
  unfolding offer_of
  offered-none e = rw e

  module _ {b : std.Option Split} {s : Split} (e : b ≡ Some s) where
    abbrev gain : Float
    gain = sub binary32 (sub binary32 cost s.bits) t.split_cost

    pub offered-some : lt singles.nought gain ≡ true → (w : ℤ) → w ≡ s.val → some (record { prop = s.prop; val = w; gain = gain; below = s.below }) ≡ offer_of t cost (best_is b)
    unfolding offer_of
    offered-some h w f =
        ap (λ (z : ℤ). some (record { prop = s.prop; val = z; gain = gain; below = s.below })) f ∙ ap (λ (x : Bool). cond x (some (record { prop = s.prop; val = s.val; gain = gain; below = s.below })) none) (sym h)
        ∙ ap (λ (d : std.Option Split). offer_of t cost (best_is d)) (sym e)

    pub offered-low : lt singles.nought gain ≡ false → none ≡ offer_of t cost (best_is b)
    unfolding offer_of
    offered-low h = ap (λ (x : Bool). cond x (some (record { prop = s.prop; val = s.val; gain = gain; below = s.below })) none) (sym h)
        ∙ ap (λ (d : std.Option Split). offer_of t cost (best_is d)) (sym e)
