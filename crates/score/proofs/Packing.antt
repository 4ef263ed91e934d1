-- The windows of a node that counts the span's rows: packed, they are lanes in which the tokens of those rows lie. Assumes nothing.
use mathlib.Core.Path.{◌≡◌, ap, ◌∙◌}
use mathlib.Core.List.{List, []}
use Prim.Native.Nat.{ℕ, ◌+◌, ◌-◌, ◌*◌, ◌≤◌, ◌<◌}
use native.Mathlib.Decide.{dec_lt}
use native.Mathlib.Omega.{arith}
use borrow.Author.Tests.{eq-eqb}
use lib.IntN.{ℤ}
use lib.ListN.{length, get_or}
use lib.Ieee.{Float}
use Rattle.model.specs.Lists.{count_if}
use Rattle.model.specs.Settings.{toks_per_row}
use Rattle.model.specs.Rows.{Row, tok_of, within, rows_of}
use Rattle.model.specs.Cost.{has_token, histogram}
use Rattle.model.specs.Promise.{no_row}
use Rattle.model.proofs.Places.{each_at}
use Rattle.cost.specs.Histograms.{part, span_of}
use Rattle.cost.proofs.Histograms.{histograms-part}
use Rattle.score_windows.specs.declared.Lane.{Lane}
use Rattle.score_windows.specs.Windows.{lane_of, Windows}
use Rattle.score_windows.proofs.Windowing.{holds, own_window, lane-first, lane-width, lane-next, lane-last}
use Rattle.score_bins.specs.Bins.{Lanes}
use Rattle.score_bins.proofs.Lanes.{count-some}
use Rattle.score_bins.proofs.Binning.{held}
use Rattle.score.specs.Scored.{Scorable}

pub histogram-at : (alphabet p : ℕ) (rows : List Row) (t : ℕ) → t < alphabet → get_or (histogram alphabet p rows) t 0 ≡ count_if (has_token p t) rows
unfolding histogram
histogram-at alphabet p rows t h = each_at (λ (t : ℕ). count_if (has_token p t) rows) alphabet t 0 h

module _ (ps : List ℤ) (tok : List ℕ) (first end prop : ℕ) (cands : List ℤ) (lanes : List Lane) (alphabet : ℕ) (node : List ℕ) (logs : List Float)
    (h : Scorable ps tok first end prop cands lanes alphabet node logs) (stride : ℕ) (w : Windows node alphabet lanes stride) where
  -- predictor p's histogram is its part of the node's
  pub node-part : (p rows : ℕ) (qs rs : List ℤ) → p < toks_per_row → end ≤ rows → part alphabet p node ≡ histogram alphabet p (within (span_of first end) (rows_of rows qs tok rs))
  node-part p rows qs rs l e = ap (part alphabet p) (h.counts rows qs rs e) ∙ histograms-part alphabet (within (span_of first end) (rows_of rows qs tok rs)) p l

  pub token-below : (k p : ℕ) → k < end - first → p < toks_per_row → get_or tok ((first + k) * toks_per_row + p) 0 < alphabet
  token-below k p l m = h.span.below ((first + k) * toks_per_row + p) (omega arith) (omega arith)

  -- the count of a row's own token is not zero
  own-count : (k j : ℕ) → k < end - first → j < length lanes
      → 0 < get_or (part alphabet (lane_of lanes j).pred node) (get_or tok ((first + k) * toks_per_row + (lane_of lanes j).pred) 0) 0
  own-count k j l m =
      let p = (lane_of lanes j).pred in
      let v = get_or tok ((first + k) * toks_per_row + p) 0 in
      let rows = within (span_of first end) (rows_of end ps tok []) in
      let hold = held ps tok first end end [] h.span.order (omega arith) in
      let at : get_or (part alphabet p node) v 0 ≡ count_if (has_token p v) rows =
      ap (λ (l : List ℕ). get_or l v 0) (node-part p end ps [] (h.pred j m) (omega arith)) ∙ histogram-at alphabet p rows v (token-below k p l (h.pred j m)) in
      omega (arith, count-some (has_token p v) no_row rows k (omega (arith, hold.long)) (eq-eqb (tok_of (get_or rows k no_row) p) v (hold.token k p l (h.pred j m))))

  pub in_windows : Lanes tok first (end - first) lanes stride
  in_windows =
      record {
        few = h.few_preds;
        pred = h.pred;
        next = λ j m. omega (arith, lane-next w j m);
        last = λ j e. omega (arith, lane-last w j e);
        from = λ k j l m. from k j l m (dec_lt (get_or tok ((first + k) * toks_per_row + (lane_of lanes j).pred) 0) (own_window node alphabet (lane_of lanes j)).first);
        below = λ k j l m. below k j l m (dec_lt (get_or tok ((first + k) * toks_per_row + (lane_of lanes j).pred) 0) (own_window node alphabet (lane_of lanes j)).end);
      }
    where
      from : (k j : ℕ) → k < end - first → j < length lanes → Dec (get_or tok ((first + k) * toks_per_row + (lane_of lanes j).pred) 0 < (own_window node alphabet (lane_of lanes j)).first)
          → (lane_of lanes j).first ≤ get_or tok ((first + k) * toks_per_row + (lane_of lanes j).pred) 0
      from k j l m (no u) = omega (arith, lane-first w j m)
      from k j l m (yes u) =
          let v = get_or tok ((first + k) * toks_per_row + (lane_of lanes j).pred) 0 in
          absurd (omega (arith, own-count k j l m, (holds (part alphabet (lane_of lanes j).pred node) alphabet).before v (token-below k (lane_of lanes j).pred l (h.pred j m)) u))

      below : (k j : ℕ) → k < end - first → j < length lanes → Dec (get_or tok ((first + k) * toks_per_row + (lane_of lanes j).pred) 0 < (own_window node alphabet (lane_of lanes j)).end)
          → get_or tok ((first + k) * toks_per_row + (lane_of lanes j).pred) 0 < (lane_of lanes j).first + (lane_of lanes j).width
      below k j l m (yes u) = omega (arith, lane-first w j m, lane-width w j m, (holds (part alphabet (lane_of lanes j).pred node) alphabet).order)
      below k j l m (no u) =
          let v = get_or tok ((first + k) * toks_per_row + (lane_of lanes j).pred) 0 in
          absurd (omega (arith, own-count k j l m, (holds (part alphabet (lane_of lanes j).pred node) alphabet).after v (token-below k (lane_of lanes j).pred l (h.pred j m)) (omega arith)))

  pub tops : (j : ℕ) → j < length lanes → (lane_of lanes j).first + (lane_of lanes j).width ≤ alphabet
  tops j m = omega (arith, lane-first w j m, lane-width w j m, (holds (part alphabet (lane_of lanes j).pred node) alphabet).order, (holds (part alphabet (lane_of lanes j).pred node) alphabet).inside)
