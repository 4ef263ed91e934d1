-- One property after another: what holds before each (document 01, "A node"). Assumes nothing.
use mathlib.Core.Path.{◌≡◌, sym, ap, ◌∙◌, subst}
use mathlib.Core.Bool.{Bool, true, false}
use mathlib.Core.List.{List, [], map}
use Prim.Native.Nat.{ℕ, ◌+◌, ◌≤◌, ◌<◌}
use native.Mathlib.Omega.{arith}
use lib.IntN.{ℤ}
use lib.Ieee.{Float}
use lib.ListN.{length, set, length-set}
use Rattle.model.specs.Lists.{is_empty, range}
use Rattle.model.specs.Single.{singles}
use Rattle.model.specs.Settings as model
use Rattle.model.specs.Candidates.{candidates_of}
use Rattle.model.specs.Score.{score_of}
use Rattle.model.specs.Evaluate.{twin, nowhere, better, best_from, property_order}
use Rattle.std.specs.Prelude.{Option, None, Some}
use Rattle.candidates.specs.Column.{column}
use Rattle.std.specs.Prelude as std
use Rattle.evaluate.specs.declared.Split.{Split}
use Rattle.score.specs.declared.Threshold.{Threshold}
use Rattle.score.specs.Scored.{score_is}
use Rattle.evaluate.specs.Best.{best_is}
use Rattle.evaluate.specs.Order.{order_at, order_count, repeats_in}
use Rattle.evaluate.specs.Evaluated.{span_rows}
use Rattle.evaluate.proofs.Orders.{order_is, order_below}
use Rattle.evaluate.proofs.Planned.{PlannedTo, planned-skipped, planned-passed, planned-marked, plan-is, repeated-is}
use Rattle.evaluate.proofs.Folds.{rest, rest-skipped, rest-passed, rest-scored, rest_end}

-- ---- the loop over the properties

module _ (props : List ℤ) (tok : List ℕ) (first end : ℕ) (preds : List ℕ) (logs : List Float) (alphabet most n : ℕ) (counts₀ : List ℕ) where
  -- whatever settings and rows: what the properties from place k on make of the best so far is what all make of none
  abbrev pub Left : std.Option Split → ℕ → Type 0
  Left best k =
      (t : model.Settings singles) (rows : ℕ) (rs : List ℤ) → t.alphabet ≡ alphabet → t.candidates ≡ most → end ≤ rows
      → rest t logs preds (span_rows first end props tok rows rs) n (best_is best) k ≡ rest t logs preds (span_rows first end props tok rows rs) n nowhere 0

  -- before place k
  pub record Turn (counts : List ℕ) (planned : List Bool) (best : std.Option Split) (k : ℕ) : Type 0 where
    pub upto : k ≤ n
    pub space : counts ≡ counts₀
    pub marks : length planned ≡ 24
    pub plans : PlannedTo props first end most k planned
    pub left : Left best k

  module _ (order : first ≤ end) (few : n ≤ 24) {counts : List ℕ} {marked : List Bool} {best : std.Option Split} {k : ℕ}
      (turn : Turn counts marked best k) (h : k < n) where
    -- the property's candidates
    abbrev chosen : List ℤ
    chosen = candidates_of most (column props (order_at k) first end)

    skipped : repeats_in marked props first end (order_at k) (twin (order_at k)) ≡ true → Turn counts marked best (k + 1)
    skipped r =
        let inside : k < 24 = omega arith in
        record {
          upto = omega arith;
          space = turn.space;
          marks = turn.marks;
          plans = planned-skipped props first end most k marked turn.plans inside r;
          left = λ t rows rs a c l.
              sym (rest-skipped t logs preds (span_rows first end props tok rows rs) n (best_is best) k h
              (sym (repeated-is props first end most k marked turn.plans inside t c tok rows rs order l) ∙ r))
              ∙ turn.left t rows rs a c l;
        }

    module _ {counts' : List ℕ} (same : counts' ≡ counts) where
      passed : chosen ≡ [] → Turn counts' marked best (k + 1)
      passed e =
          let inside : k < 24 = omega arith in
          record {
            upto = omega arith;
            space = same ∙ turn.space;
            marks = turn.marks;
            plans = planned-passed props first end most k marked turn.plans inside e;
            left = λ t rows rs a c l.
                sym (rest-passed t logs preds (span_rows first end props tok rows rs) n (best_is best) k h
                (plan-is props first end most k marked turn.plans inside t c tok rows rs order l (order_at k) (order_below k inside) ∙ e))
                ∙ turn.left t rows rs a c l;
          }

      module _ (some-chosen : is_empty chosen ≡ false) where
        scored : repeats_in marked props first end (order_at k) (twin (order_at k)) ≡ false → (s : Option Threshold)
            → ((t : model.Settings singles) (rows : ℕ) (rs : List ℤ) → t.alphabet ≡ alphabet → end ≤ rows
            → score_is s ≡ score_of t logs preds (order_at k) (span_rows first end props tok rows rs) chosen)
            → (next : std.Option Split) → best_is next ≡ better (best_is best) (order_at k) (score_is s) → Turn counts' (set marked (order_at k) true) next (k + 1)
        scored r s score next e =
            let inside : k < 24 = omega arith in
            record {
              upto = omega arith;
              space = same ∙ turn.space;
              marks = length-set marked (order_at k) true ∙ turn.marks;
              plans = planned-marked props first end most k marked turn.plans inside some-chosen turn.marks;
              left = λ t rows rs a c l.
                  let mine = span_rows first end props tok rows rs in
                  ap (λ (b : _). rest t logs preds mine n b (k + 1)) e
                  ∙ sym (rest-scored t logs preds mine n (best_is best) k h
                  (sym (repeated-is props first end most k marked turn.plans inside t c tok rows rs order l) ∙ r)
                  (score_is s)
                  (score t rows rs a l ∙ ap (score_of t logs preds (order_at k) mine)
                  (sym (plan-is props first end most k marked turn.plans inside t c tok rows rs order l (order_at k) (order_below k inside)))))
                  ∙ turn.left t rows rs a c l;
            }

    -- ---- for the property that the code took

    module _ (q : ℕ) (at : q ≡ order_at k) where
      pub turn-skipped : repeats_in marked props first end q (twin q) ≡ true → Turn counts marked best (k + 1)
      turn-skipped r = skipped (subst (λ (i : ℕ). repeats_in marked props first end i (twin i) ≡ true) at r)

      -- its candidates
      abbrev picked : List ℤ
      picked = candidates_of most (column props q first end)

      module _ {counts' : List ℕ} (same : counts' ≡ counts) where
        pub turn-passed : picked ≡ [] → Turn counts' marked best (k + 1)
        turn-passed p = passed same (subst (λ (i : ℕ). candidates_of most (column props i first end) ≡ []) at p)

        pub turn-scored : is_empty picked ≡ false → repeats_in marked props first end q (twin q) ≡ false
            → (s : Option Threshold)
            → ((t : model.Settings singles) (rows : ℕ) (rs : List ℤ) → t.alphabet ≡ alphabet → end ≤ rows
            → score_is s ≡ score_of t logs preds q (span_rows first end props tok rows rs) picked)
            → (next : std.Option Split) → best_is next ≡ better (best_is best) q (score_is s) → Turn counts' (set marked q true) next (k + 1)
        turn-scored p r s score next e =
            subst (λ (i : ℕ). Turn counts' (set marked i true) next (k + 1)) (sym at)
            (scored same (subst (λ (i : ℕ). is_empty (candidates_of most (column props i first end)) ≡ false) at p)
            (subst (λ (i : ℕ). repeats_in marked props first end i (twin i) ≡ false) at r) s
            (λ t rows rs a l. score t rows rs a l ∙ ap (λ (i : ℕ). score_of t logs preds i (span_rows first end props tok rows rs) (candidates_of most (column props i first end))) at)
            next (e ∙ ap (λ (i : ℕ). better (best_is best) i (score_is s)) at))

  -- ---- the end

  pub turn_end : {counts : List ℕ} {marked : List Bool} {best : std.Option Split} {k : ℕ} → Turn counts marked best k → n ≤ k
      → (t : model.Settings singles) (rows : ℕ) (rs : List ℤ)
      → t.alphabet ≡ alphabet → t.candidates ≡ most → n ≡ order_count t.weighted → end ≤ rows
      → best_is best ≡ best_from t logs preds (span_rows first end props tok rows rs) nowhere (property_order t.weighted)
  turn_end {best = best} {k = k} turn h t rows rs a c w l =
      let mine = span_rows first end props tok rows rs in
      sym (rest_end t logs preds mine n (best_is best) k h) ∙ turn.left t rows rs a c l
      ∙ ap (best_from t logs preds mine nowhere) (ap (λ (i : ℕ). map order_at (range 0 i)) w ∙ sym (order_is t.weighted))
