-- The side predictors of a node, as the code holds them, are the model's. Assumes nothing.
use mathlib.Core.Path.{◌≡◌, refl, sym, ap, ◌∙◌, subst}
use mathlib.Core.Bool.{Bool, false}
use mathlib.Core.List.{List, [], ◌∷◌}
use Prim.Native.Nat.{ℕ, ◌-◌, ◌*◌, ◌≤◌, ◌<◌, min, max}
use native.Mathlib.Omega.{arith}
use lib.IntN.{ℤ}
use lib.Ieee.{Float}
use lib.ListN.{length, get_or, take, length-take, length-map}
use lib.Seq.{get_or-take, length-slice}
use Rattle.model.specs.Lists.{range, keep, is_empty}
use Rattle.model.specs.Rows.{rows_of}
use Rattle.model.specs.Cost.{side_predictors}
use Rattle.model.proofs.Keeping.{length_keep_le}
use Rattle.model.proofs.Places.{length-range, length_rows_of}
use Rattle.refuse.specs.declared.Settings.{Settings}
use Rattle.refuse.specs.Given.{settings_of}
use Rattle.cost.specs.Histograms.{histograms, CountsSpan}
use Rattle.cost.specs.Predictors.{may_use, usable_predictors, node_costs, sorted_predictors, cost_in}
use Rattle.cost.proofs.Numbers.{Each, Passes, keep-passes}
use Rattle.cost.proofs.Histograms.{histograms-length}
use Rattle.cost.proofs.Sorting.{by_cost-length, by_cost-each}
use Rattle.cost.proofs.Bridge.{sides-is, usable-is}
use Rattle.score_windows.specs.declared.Lane.{Lane}
use Rattle.score_windows.specs.Windows.{preds_of, Windowable, Windows}
use Rattle.score_windows.proofs.Windowing.{pred_at}
use Rattle.evaluate.specs.Evaluated.{Evaluable, Splittable, span_rows}

some-there : (l : List ℕ) → is_empty l ≡ false → 0 < length l
some-there [] e = let z : ◌≡◌ {A = ℕ} 0 1 = cc in absurd (omega arith)
some-there (x ∷ xs) e = omega arith

pub span-length : (props : List ℤ) (tok : List ℕ) (first end rows : ℕ) (rs : List ℤ) → end ≤ rows → length (span_rows first end props tok rows rs) ≡ end - first
span-length props tok first end rows rs h = length-slice first end (rows_of rows props tok rs) (omega (arith, length_rows_of rows props tok rs))

pub costs-length : (hist : List ℕ) (total alphabet : ℕ) (weighted : Bool) (allowed : ℕ) (logs : List Float)
    → length (node_costs hist total alphabet weighted allowed logs) ≡ 14
unfolding node_costs
costs-length hist total alphabet weighted allowed logs = refl

module _ (costs : List Float) (weighted : Bool) (allowed side : ℕ) (some : is_empty (usable_predictors weighted allowed) ≡ false) where
  abbrev sorted : List ℕ
  sorted = sorted_predictors costs weighted allowed

  -- as many of them as the sides use
  abbrev sides : List ℕ
  sides = take (max side 1) sorted

  sorted-length : length sorted ≡ length (usable_predictors weighted allowed)
  unfolding sorted_predictors
  sorted-length = by_cost-length (cost_in costs) (usable_predictors weighted allowed)

  sorted-low : Each (Passes (may_use weighted allowed) 14) sorted
  unfolding sorted_predictors usable_predictors
  sorted-low =
      by_cost-each (cost_in costs) (Passes (may_use weighted allowed) 14) (keep (may_use weighted allowed) (range 0 14))
      (keep-passes (may_use weighted allowed) 14 0 14 (omega arith))

  usable-few : length (usable_predictors weighted allowed) ≤ 14
  unfolding usable_predictors
  usable-few = omega (arith, length_keep_le (may_use weighted allowed) (range 0 14), length-range 0 14)

  sides-length : length sides ≡ min (max side 1) (length (usable_predictors weighted allowed))
  sides-length = length-take (max side 1) sorted ∙ ap (min (max side 1)) sorted-length

  pub sides-few : length sides ≤ 14
  sides-few = omega (arith, sides-length, usable-few)

  pub sides-some : 1 ≤ length sides
  sides-some = omega (arith, sides-length, some-there (usable_predictors weighted allowed) some)

  pub sides-wanted : length sides ≤ max side 1
  sides-wanted = omega (arith, sides-length)

  pub sides-low : (i : ℕ) → i < length sides → get_or sides i 0 < 14
  sides-low i h =
      subst (λ (q : ℕ). q < 14) (sym (get_or-take (max side 1) sorted i 0 (omega (arith, sides-length)))) (sorted-low i (omega (arith, sides-length, sorted-length))).0

module _ {props : List ℤ} {tok : List ℕ} {first end : ℕ} {s : Settings} {logs : List Float} {counts : List ℕ} (node : Evaluable props tok first end s logs counts)
    {hist : List ℕ} (counted : CountsSpan tok first end hist s.alphabet) where
  pub some-usable : is_empty (usable_predictors s.allow_wp s.allowed_preds) ≡ false
  some-usable = ap is_empty (usable-is (settings_of s)) ∙ node.some

  pub hist_length : length hist ≡ 14 * s.alphabet
  hist_length = ap length (counted end [] [] (omega arith)) ∙ histograms-length s.alphabet (span_rows first end [] tok end [])

  module _ (costs : List Float) (preds : List ℕ) (own : costs ≡ node_costs hist (end - first) s.alphabet s.allow_wp s.allowed_preds logs)
      (are : preds ≡ take (max s.side_preds 1) (sorted_predictors costs s.allow_wp s.allowed_preds)) where
    low : (i : ℕ) → i < length preds → get_or preds i 0 < 14
    low =
        subst (λ (l : List ℕ). (i : ℕ) → i < length l → get_or l i 0 < 14) (sym are)
        (sides-low costs s.allow_wp s.allowed_preds s.side_preds some-usable)

    few : length preds ≤ 14
    few = omega (arith, ap length are, sides-few costs s.allow_wp s.allowed_preds s.side_preds some-usable)

    pub windowable : Windowable hist s.alphabet preds
    windowable = record { room = hist_length; tokens = node.settings.alphabet.1; pred = low; few = few }

    pub splittable : {lanes : List Lane} {stride : ℕ} → preds_of lanes ≡ preds → Windows hist s.alphabet lanes stride
        → Splittable props tok first end s lanes stride hist logs counts
    splittable {lanes} e w =
        let long : length lanes ≡ length preds = sym (length-map lanes (λ (l : Lane). l.pred)) ∙ ap length e in
        record {
          node = node;
          counted = counted;
          below = λ j m. rw (sym (pred_at w j) ∙ ap (λ (l : List ℕ). get_or l j 0) e) (low j (omega arith));
          some = omega (arith, ap length are, sides-some costs s.allow_wp s.allowed_preds s.side_preds some-usable);
          few = omega (arith, few);
          sides = omega (arith, ap length are, sides-wanted costs s.allow_wp s.allowed_preds s.side_preds some-usable);
          windows = w;
        }

    -- the node's cheapest usable predictors
    pub preds_are : (rows : ℕ) (rs : List ℤ) → end ≤ rows → preds ≡ side_predictors (settings_of s) logs (span_rows first end props tok rows rs)
    preds_are rows rs h =
        let mine = span_rows first end props tok rows rs in
        let w = s.allow_wp in
        let allowed = s.allowed_preds in
        let same : costs ≡ node_costs (histograms s.alphabet mine) (length mine) s.alphabet w allowed logs =
        own ∙ ap (λ (l : List ℕ). node_costs l (end - first) s.alphabet w allowed logs) (counted rows props rs h)
        ∙ ap (λ (i : ℕ). node_costs (histograms s.alphabet mine) i s.alphabet w allowed logs) (sym (span-length props tok first end rows rs h)) in
        are ∙ ap (λ (c : List Float). take (max s.side_preds 1) (sorted_predictors c w allowed)) same ∙ sides-is (settings_of s) logs mine
