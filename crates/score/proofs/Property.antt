-- The bins that counting and summing leave give the model's score of the span's rows. Assumes nothing.
use mathlib.Core.Path.{◌≡◌, sym, ap, ◌∙◌}
use mathlib.Core.Bool.{not}
use mathlib.Core.List.{List, []}
use Prim.Native.Nat.{ℕ, ◌+◌, ◌-◌, ◌*◌, ◌≤◌, ◌<◌}
use native.Mathlib.Nat.{suc-mul, mul-le-mul_left, mul_comm}
use native.Mathlib.Numerals.{add-one}
use native.Mathlib.Decide.{dec_lt, ℕ_discrete}
use native.Mathlib.Omega.{arith}
use lib.IntN.{ℤ, pos}
use lib.ListN.{length, get_or, take, drop, replicate, length-map, length-replicate, get_or-replicate, get_or-eq_default}
use lib.Seq.{ext_get_or, get_or-take, get_or-drop, take-length, length-take-le}
use lib.Ieee.{Float}
use Rattle.std.proofs.lemmas.List.{get_or-map}
use Rattle.model.specs.Lists.{keep}
use Rattle.model.specs.Settings.{Settings, toks_per_row}
use Rattle.model.specs.Rows.{Row, tok_of, is_above, within, rows_of}
use Rattle.model.specs.Single.{singles}
use Rattle.model.specs.Cost.{histogram, log_of, extra_from, cost_of}
use Rattle.model.specs.Score.{Score, threshold, side_cost, score_sides, score_at, score_of}
use Rattle.model.specs.Promise.{no_row}
use Rattle.cost.specs.Counted.{rows_in}
use Rattle.cost.specs.Histograms.{part, span_of}
use Rattle.cost.proofs.Blocks.{part_end}
use Rattle.cost.proofs.Histograms.{histogram-length, histogram-rows, histograms-length}
use Rattle.score_windows.specs.declared.Lane.{Lane}
use Rattle.score_windows.specs.Windows.{no_lane, lane_of, preds_of, Windows}
use Rattle.score_windows.proofs.Windowing.{Holds, holds, own_window, pred_at, lane-first, lane-width, lane-begins, stride-low}
use Rattle.score_bins.specs.Bins.{tallied_rows, summed, bin_cell, Low, Lanes, RowsThere, SumsLow}
use Rattle.score_bins.proofs.Tallies.{rows-length, rows-low, summed-length}
use Rattle.score_bins.proofs.Lanes.{lane-ends}
use Rattle.score_bins.proofs.Binning.{Held, held, left-counts, bin-room, sums_low}
use Rattle.score_sides.specs.declared.Sides.{Sides}
use Rattle.score_sides.specs.Lowest.{run, lane_costs, costs_at, lowest_to}
use Rattle.score.specs.Scored.{scored_sides, size_at, nth_bin, scored_bin, scored_at, scored_to, extras_in, ExtrasFit, BinReady, Binned, Scorable, Spare}
use Rattle.score.proofs.Packing.{histogram-at, node-part, token-below, in_windows, tops}
use Rattle.score.proofs.Counting.{length-sides, all_keep, histogram-counts}
use Rattle.score.proofs.Scores.{Inside, rows_window, extra_window, inside-le, window_costs, window_counted, run_length, run_at, lowest-is, scored-is, scored_no_le, scored_no_gt, scored-both, sides_no_le, sides_no_gt, sides-both}

-- a list of zeros
pub zeros-low : (n : ℕ) → Low 0 (replicate n 0)
zeros-low n i = elim (dec_lt i n) [
  | yes l ↦ rw (get_or-replicate {A = ℕ} n i 0 0 l) (omega arith)
  | no l ↦ rw (get_or-eq_default {A = ℕ} (replicate n 0) 0 {n = i} (omega (arith, length-replicate {A = ℕ} n 0))) (omega arith)
]

-- its first n
pub zeros-front : (cells : List ℕ) (n : ℕ) → cells ≡ replicate (length cells) 0 → n ≤ length cells → take n cells ≡ replicate n 0
zeros-front cells n e h =
    ext_get_or 0 (take n cells) (replicate n 0) (length-take-le n cells h ∙ sym (length-replicate {A = ℕ} n 0))
    (λ i l.
    let k : i < n = omega (arith, length-take-le n cells h) in
    let m : i < length cells = omega arith in
    get_or-take n cells i 0 k ∙ ap (λ (l : List ℕ). get_or l i 0) e ∙ get_or-replicate {A = ℕ} (length cells) i 0 0 m ∙ sym (get_or-replicate {A = ℕ} n i 0 0 k))

module _ (ps : List ℤ) (tok : List ℕ) (first end prop : ℕ) (cands : List ℤ) (lanes : List Lane) (alphabet : ℕ) (node : List ℕ) (logs : List Float)
    (h : Scorable ps tok first end prop cands lanes alphabet node logs) (stride : ℕ) (w : Windows node alphabet lanes stride) where
  abbrev n : ℕ
  n = end - first

  abbrev cell : ℕ → ℕ → ℕ
  cell = bin_cell ps tok first prop cands lanes stride

  pub rows-there : RowsThere ps tok first (end - first)
  rows-there =
      let e : first + (end - first) ≡ end = omega (arith, h.span.order) in
      record { few = omega (arith, h.span.few); props = rw e h.props_there; toks = rw e h.span.there }

  pub all_lanes : Lanes tok first (end - first) lanes stride
  all_lanes = in_windows ps tok first end prop cands lanes alphabet node logs h stride w

  -- the node's histograms, for their extra bits
  pub extras-fit : ExtrasFit node alphabet lanes
  extras-fit =
      let span = within (span_of first end) (rows_of end ps tok []) in
      let long = (held ps tok first end end [] h.span.order (omega arith)).long in
      record {
        room = ap length (h.counts end ps [] (omega arith)) ∙ histograms-length alphabet span;
        tokens = h.tokens;
        pred = h.pred;
        rows = λ p l.
            rw (node-part ps tok first end prop cands lanes alphabet node logs h stride w p end ps [] l (omega arith)) (omega (arith, histogram-rows alphabet p span, h.span.few));
        few = h.few_preds;
      }

  -- the bins fit the room
  pub bins_fit : (room : List ℕ) → Spare (length lanes) alphabet (length cands) room → (length cands + 1) * stride ≤ length room
  bins_fit room spare =
      let many = mul-le-mul_left (length cands + 1) (stride-low w) in
      let turned = mul_comm (length cands + 1) (length lanes * alphabet) in
      let more : length lanes * alphabet * (length cands + 1) ≤ length lanes * alphabet * (length cands + 2) = mul-le-mul_left (length lanes * alphabet) (omega arith) in
      omega (arith, spare.long)

  module _ (c : List ℕ) (empty : c ≡ replicate ((length cands + 1) * stride) 0) where
    c-long : length c ≡ (length cands + 1) * stride
    c-long = ap length empty ∙ length-replicate {A = ℕ} ((length cands + 1) * stride) 0

    pub c-low : Low 0 c
    c-low = rw empty (zeros-low ((length cands + 1) * stride))

    -- the bins with those before them
    abbrev cells : List ℕ
    cells = summed stride (length cands * stride) (tallied_rows (bin_cell ps tok first prop cands lanes stride) (length lanes) (end - first) c)

    cells-long : length (summed stride (length cands * stride) (tallied_rows (bin_cell ps tok first prop cands lanes stride) (length lanes) (end - first) c)) ≡ (length cands + 1) * stride
    cells-long = summed-length stride (length cands * stride) (tallied_rows cell (length lanes) n c) ∙ rows-length cell (length lanes) n c ∙ c-long

    one_more : (length cands + 1) * stride ≡ stride + length cands * stride
    one_more = ap (λ (k : ℕ). k * stride) (add-one (length cands)) ∙ suc-mul (length cands) stride ∙ omega arith

    in_bin : (j : ℕ) → j < length lanes → (lane_of lanes j).off + (lane_of lanes j).width ≤ stride
    in_bin = lane-ends (length lanes) stride (λ (j : ℕ). (lane_of lanes j).off) (λ (j : ℕ). (lane_of lanes j).width) all_lanes.next all_lanes.last

    bin_there : (k : ℕ) → k < length cands → k * stride + stride ≤ (length cands + 1) * stride
    bin_there k l = omega (arith, part_end k (length cands) stride l, one_more)

    node_end : (j : ℕ) → j < length lanes → (lane_of lanes j).pred * alphabet + (lane_of lanes j).first + (lane_of lanes j).width ≤ length node
    node_end j m =
        let long : length node ≡ toks_per_row * alphabet = ap length (h.counts end ps [] (omega arith)) ∙ histograms-length alphabet (within (span_of first end) (rows_of end ps tok [])) in
        omega (arith, part_end (lane_of lanes j).pred toks_per_row alphabet (h.pred j m), tops ps tok first end prop cands lanes alphabet node logs h stride w j m)

    module _ (rows : ℕ) (rs : List ℤ) (l : end ≤ rows) where
      abbrev span : List Row
      span = within (span_of first end) (rows_of rows ps tok rs)

      hold : Held ps tok first (end - first) (within (span_of first end) (rows_of rows ps tok rs))
      hold = held ps tok first end rows rs h.span.order l

      abbrev le : ℕ → List Row
      le k = keep (λ (r : Row). not (is_above prop (get_or cands k (pos 0)) r)) (within (span_of first end) (rows_of rows ps tok rs))

      abbrev gt : ℕ → List Row
      gt k = keep (is_above prop (get_or cands k (pos 0))) (within (span_of first end) (rows_of rows ps tok rs))

      top : (j : ℕ) → j < length lanes → (lane_of lanes j).first + (lane_of lanes j).width ≤ alphabet
      top = tops ps tok first end prop cands lanes alphabet node logs h stride w

      own-part : (j : ℕ) → j < length lanes → part alphabet (lane_of lanes j).pred node ≡ histogram alphabet (lane_of lanes j).pred (within (span_of first end) (rows_of rows ps tok rs))
      own-part j m = node-part ps tok first end prop cands lanes alphabet node logs h stride w (lane_of lanes j).pred rows ps rs (h.pred j m) l

      -- a window has all the tokens that are counted
      inside : (j : ℕ) → j < length lanes → Inside (histogram alphabet (lane_of lanes j).pred (within (span_of first end) (rows_of rows ps tok rs))) (lane_of lanes j).first (lane_of lanes j).width
      inside j m =
          record {
            fits = omega (arith, top j m, histogram-length alphabet (lane_of lanes j).pred span);
            before = λ t b. same t ∙ has.before t (omega (arith, top j m)) (omega (arith, lane-first w j m));
            after = λ t a. elim (dec_lt t alphabet) [
              | yes u ↦ same t ∙ has.after t u (omega (arith, lane-first w j m, lane-width w j m, has.order))
              | no u ↦ get_or-eq_default (histogram alphabet (lane_of lanes j).pred span) 0 {n = t} (omega (arith, histogram-length alphabet (lane_of lanes j).pred span))
            ];
          }
        where
          has : Holds (part alphabet (lane_of lanes j).pred node) alphabet (own_window node alphabet (lane_of lanes j))
          has = holds (part alphabet (lane_of lanes j).pred node) alphabet

          same : (t : ℕ) → get_or (histogram alphabet (lane_of lanes j).pred (within (span_of first end) (rows_of rows ps tok rs))) t 0 ≡ get_or (part alphabet (lane_of lanes j).pred node) t 0
          same t = ap (λ (l : List ℕ). get_or l t 0) (sym (own-part j m))

      -- its part of the node's counts
      node-run : (j : ℕ) → j < length lanes
          → run node ((lane_of lanes j).pred * alphabet + (lane_of lanes j).first) (lane_of lanes j).width
          ≡ run (histogram alphabet (lane_of lanes j).pred (within (span_of first end) (rows_of rows ps tok rs))) (lane_of lanes j).first (lane_of lanes j).width
      node-run j m =
          let p = (lane_of lanes j).pred in
          let f = (lane_of lanes j).first in
          let width = (lane_of lanes j).width in
          let hist = histogram alphabet p span in
          let t = top j m in
          let la = run_length node (p * alphabet + f) width (node_end j m) in
          let lb = run_length hist f width (inside j m).fits in
          ext_get_or 0 (run node (p * alphabet + f) width) (run hist f width) (omega arith)
          (λ x i.
          let lx : x < width = omega arith in
          let e : p * alphabet + f + x ≡ p * alphabet + (f + x) = omega arith in
          run_at node (p * alphabet + f) width x lx
          ∙ ap (λ (k : ℕ). get_or node k 0) e
          ∙ sym (get_or-take alphabet (drop (p * alphabet) node) (f + x) 0 (omega arith) ∙ get_or-drop (p * alphabet) node (f + x) 0)
          ∙ ap (λ (l : List ℕ). get_or l (f + x) 0) (own-part j m)
          ∙ sym (run_at hist f width x lx))

      -- and of those of the rows at most candidate k
      left-run : (k j : ℕ) → k < length cands → j < length lanes
          → run (nth_bin (summed stride (length cands * stride) (tallied_rows (bin_cell ps tok first prop cands lanes stride) (length lanes) (end - first) c)) stride k) (lane_of lanes j).off (lane_of lanes j).width
          ≡ run (histogram alphabet (lane_of lanes j).pred (keep (λ (r : Row). not (is_above prop (get_or cands k (pos 0)) r)) (within (span_of first end) (rows_of rows ps tok rs)))) (lane_of lanes j).first (lane_of lanes j).width
      left-run k j b m =
          let p = (lane_of lanes j).pred in
          let f = (lane_of lanes j).first in
          let width = (lane_of lanes j).width in
          let hist = histogram alphabet p (le k) in
          let t = top j m in
          let long = histogram-length alphabet p (le k) in
          let bin = nth_bin cells stride k in
          let off = (lane_of lanes j).off in
          let there = bin_there k b in
          let within_bin = in_bin j m in
          let lc = run_length cells (k * stride) stride (omega (arith, cells-long)) in
          let la = run_length bin off width (omega arith) in
          let lb = run_length hist f width (omega arith) in
          ext_get_or 0 (run bin off width) (run hist f width) (omega arith)
          (λ x i.
          let lx : x < width = omega arith in
          let ly : off + x < stride = omega arith in
          run_at bin off width x lx
          ∙ run_at cells (k * stride) stride (off + x) ly
          ∙ left-counts ps tok first n prop cands lanes stride all_lanes span hold h.property c c-low c-long h.ascends k j x b m lx
          ∙ sym (histogram-at alphabet p (le k) (f + x) (omega arith))
          ∙ sym (run_at hist f width x lx))

      -- so many rows
      size_is : (k : ℕ) → k < length cands
          → size_at (nth_bin (summed stride (length cands * stride) (tallied_rows (bin_cell ps tok first prop cands lanes stride) (length lanes) (end - first) c)) stride k) lanes
          ≡ length (keep (λ (r : Row). not (is_above prop (get_or cands k (pos 0)) r)) (within (span_of first end) (rows_of rows ps tok rs)))
      size_is k b =
          let some : 0 < length lanes = h.some_preds in
          let p = (lane_of lanes 0).pred in
          ap (λ (i : ℕ). rows_in (run (nth_bin cells stride k) i (lane_of lanes 0).width)) (sym (lane-begins w some))
          ∙ ap rows_in (left-run k 0 b some)
          ∙ rows_window (histogram alphabet p (le k)) (lane_of lanes 0).first (lane_of lanes 0).width
          (inside-le alphabet p (lane_of lanes 0).first (lane_of lanes 0).width span (is_above prop (get_or cands k (pos 0))) (inside 0 some))
          ∙ histogram-counts alphabet p no_row (le k)
          (all_keep (λ (r : Row). tok_of r p < alphabet) no_row (λ (r : Row). not (is_above prop (get_or cands k (pos 0)) r)) span
          (λ i m.
          let m' : i < n = omega (arith, hold.long) in
          rw (hold.token i p m' (h.pred 0 some)) (token-below ps tok first end prop cands lanes alphabet node logs h stride w i p m' (h.pred 0 some))))

      both : (k : ℕ)
          → length (keep (λ (r : Row). not (is_above prop (get_or cands k (pos 0)) r)) (within (span_of first end) (rows_of rows ps tok rs)))
          + length (keep (is_above prop (get_or cands k (pos 0))) (within (span_of first end) (rows_of rows ps tok rs))) ≡ end - first
      both k = length-sides (is_above prop (get_or cands k (pos 0))) span ∙ hold.long

      binned : (extras : List ℕ) → extras ≡ extras_in node alphabet lanes
          → Binned (summed stride (length cands * stride) (tallied_rows (bin_cell ps tok first prop cands lanes stride) (length lanes) (end - first) c)) node alphabet lanes extras stride (end - first) (length cands) logs
      binned extras x = record { each = each; room = omega (arith, cells-long, one_more) }
        where
          each : (k : ℕ) → k < length cands
              → BinReady (nth_bin (summed stride (length cands * stride) (tallied_rows (bin_cell ps tok first prop cands lanes stride) (length lanes) (end - first) c)) stride k) node alphabet lanes extras (end - first) logs
          each k b =
              let long = run_length cells (k * stride) stride (omega (arith, cells-long, bin_there k b)) in record {
                ready = record {
                  extras_room = omega (arith, ap length x, length-map lanes (λ (l : Lane). extra_from 0 (part alphabet l.pred node)));
                  each = λ j m. record {
                    in_bin = omega (arith, in_bin j m);
                    in_node = node_end j m;
                    top = omega (arith, top j m, h.tokens);
                    extra =
                        ap (λ (l : List ℕ). get_or l j 0) x ∙ get_or-map (λ (l : Lane). extra_from 0 (part alphabet l.pred node)) lanes j no_lane 0 m ∙ ap (extra_from 0) (own-part j m)
                        ∙ sym (extra_window (histogram alphabet (lane_of lanes j).pred span) (lane_of lanes j).first (lane_of lanes j).width (inside j m))
                        ∙ ap (extra_from (lane_of lanes j).first) (sym (node-run j m));
                    counted =
                        rw (left-run k j b m, node-run j m)
                        (window_counted alphabet (lane_of lanes j).pred (lane_of lanes j).first (lane_of lanes j).width span (is_above prop (get_or cands k (pos 0))) (inside j m) logs
                        (omega (arith, h.span.few, hold.long)) (omega (arith, h.reach.long, hold.long)));
                  };
                };
                sized = omega (arith, size_is k b, both k);
                some = h.some_preds;
                size_there = omega (arith, in_bin 0 h.some_preds);
                small = omega (arith, h.span.few);
                reach = h.reach.long;
              }

      module _ (t : Settings singles) (alike : t.alphabet ≡ alphabet) where
        lane-is : (k : ℕ) → k < length cands → (j : ℕ) → j < length lanes
            → costs_at (nth_bin (summed stride (length cands * stride) (tallied_rows (bin_cell ps tok first prop cands lanes stride) (length lanes) (end - first) c)) stride k) node alphabet lanes
            (record {
              le = log_of singles logs (length (keep (λ (r : Row). not (is_above prop (get_or cands k (pos 0)) r)) (within (span_of first end) (rows_of rows ps tok rs))));
              gt = log_of singles logs (length (keep (is_above prop (get_or cands k (pos 0))) (within (span_of first end) (rows_of rows ps tok rs))));
            }) logs j
            ≡ record {
              le = cost_of t logs (keep (λ (r : Row). not (is_above prop (get_or cands k (pos 0)) r)) (within (span_of first end) (rows_of rows ps tok rs))) (lane_of lanes j).pred;
              gt = cost_of t logs (keep (is_above prop (get_or cands k (pos 0))) (within (span_of first end) (rows_of rows ps tok rs))) (lane_of lanes j).pred;
            }
        unfolding lane_costs
        lane-is k b j m =
            rw (left-run k j b m, node-run j m)
            (window_costs alphabet (lane_of lanes j).pred (lane_of lanes j).first (lane_of lanes j).width span (is_above prop (get_or cands k (pos 0))) (inside j m) t logs alike)

        candidate-is : (k : ℕ) → k < length cands
            → scored_at (summed stride (length cands * stride) (tallied_rows (bin_cell ps tok first prop cands lanes stride) (length lanes) (end - first) c)) node alphabet lanes stride (end - first) cands logs k
            ≡ score_at t logs (preds_of lanes) prop (within (span_of first end) (rows_of rows ps tok rs)) (get_or cands k (pos 0))
        unfolding scored_bin score_at side_cost
        candidate-is k b = rw (size_is k b, gt-is) (go (ℕ_discrete (length (le k)) 0) (ℕ_discrete (length (le k)) n))
          where
            val : ℤ
            val = get_or cands k (pos 0)

            gt-is : end - first - length (keep (λ (r : Row). not (is_above prop (get_or cands k (pos 0)) r)) (within (span_of first end) (rows_of rows ps tok rs)))
                ≡ length (keep (is_above prop (get_or cands k (pos 0))) (within (span_of first end) (rows_of rows ps tok rs)))
            gt-is = omega (arith, both k)

            lane : ℕ → Sides
            lane = costs_at (nth_bin cells stride k) node alphabet lanes (record { le = log_of singles logs (length (le k)); gt = log_of singles logs (length (gt k)) }) logs

            lowest : ((lowest_to lane (length lanes)).le ≡ side_cost t logs (preds_of lanes) (le k)) × ((lowest_to lane (length lanes)).gt ≡ side_cost t logs (preds_of lanes) (gt k))
            lowest =
                let long = length-map lanes (λ (l : Lane). l.pred) in
                let each : (j : ℕ) → j < length (preds_of lanes)
                → lane j ≡ record { le = cost_of t logs (le k) (get_or (preds_of lanes) j 0); gt = cost_of t logs (gt k) (get_or (preds_of lanes) j 0) } =
                λ j m. rw (pred_at w j) (lane-is k b j (omega arith)) in
                let found = lowest-is lane (cost_of t logs (le k)) (cost_of t logs (gt k)) (preds_of lanes) each (length (preds_of lanes)) (omega arith) in
                rw (take-length, long) at found

            go : Dec (length (le k) ≡ 0) → Dec (length (le k) ≡ n) → scored_sides (length (le k)) n val (lowest_to lane (length lanes)) ≡ score_sides t logs (preds_of lanes) val (le k) (gt k)
            go (yes e) d = scored_no_le (length (le k)) n val (lowest_to lane (length lanes)) e ∙ sym (sides_no_le t logs (preds_of lanes) val (le k) (gt k) e)
            go (no z) (yes e) = scored_no_gt (length (le k)) n val (lowest_to lane (length lanes)) z e ∙ sym (sides_no_gt t logs (preds_of lanes) val (le k) (gt k) (omega (arith, both k)))
            go (no z) (no e) =
                scored-both (length (le k)) n val (lowest_to lane (length lanes)) z e
                ∙ ap (λ (b : Float). threshold val (singles.plus b (lowest_to lane (length lanes)).gt) (length (le k))) lowest.0
                ∙ ap (λ (b : Float). threshold val (singles.plus (side_cost t logs (preds_of lanes) (le k)) b) (length (le k))) lowest.1
                ∙ sym (sides-both t logs (preds_of lanes) val (le k) (gt k) (omega arith) (omega (arith, both k)))

        score_is_lem : scored_to (scored_at (summed stride (length cands * stride) (tallied_rows (bin_cell ps tok first prop cands lanes stride) (length lanes) (end - first) c)) node alphabet lanes stride (end - first) cands logs) (length cands)
            ≡ score_of t logs (preds_of lanes) prop (within (span_of first end) (rows_of rows ps tok rs)) cands
        unfolding score_of
        score_is_lem =
            let found = scored-is (scored_at cells node alphabet lanes stride n cands logs) (score_at t logs (preds_of lanes) prop span) cands candidate-is (length cands) (omega arith) in
            rw take-length at found

    -- ---- for `score_in`: its room after each call

    module _ (counted : List ℕ) (e : counted ≡ tallied_rows (bin_cell ps tok first prop cands lanes stride) (length lanes) (end - first) c) where
      -- the bins but the first
      rest_is : length counted - stride ≡ length cands * stride
      rest_is = omega (arith, ap length e ∙ rows-length cell (length lanes) n c ∙ c-long, one_more)

      pub sums_fit : (stride ≤ length counted) × SumsLow stride (length counted - stride) counted
      sums_fit =
          let long : length counted ≡ (length cands + 1) * stride = ap length e ∙ rows-length cell (length lanes) n c ∙ c-long in
          let fits : stride + length cands * stride ≤ length counted = omega (arith, one_more) in
          let low = rows-low cell (length lanes) n c (λ k j a b. omega (arith, bin-room ps tok first n prop cands lanes stride all_lanes k j a b, c-long)) h.few_preds
          (omega (arith, h.span.few)) c-low in
          (omega arith, rw rest_is (sums_low stride (length cands) counted h.few_cands fits (λ i. omega (arith, low i, ap (λ (l : List ℕ). get_or l i 0) e))))

      module _ (left : List ℕ) (g : left ≡ summed stride (length counted - stride) counted) where
        f : left ≡ summed stride (length cands * stride) counted
        f = rw rest_is at g

        pub ready : (extras : List ℕ) → extras ≡ extras_in node alphabet lanes
            → Binned left node alphabet lanes extras stride (end - first) (length cands) logs
        ready extras x = rw (f, e) (binned end [] (omega arith) extras x)

        pub scored : (s : Score singles) → s ≡ scored_to (scored_at left node alphabet lanes stride (end - first) cands logs) (length cands)
            → (t : Settings singles) (rows : ℕ) (rs : List ℤ) → t.alphabet ≡ alphabet → end ≤ rows → s ≡ score_of t logs (preds_of lanes) prop (within (span_of first end) (rows_of rows ps tok rs)) cands
        scored s is t rows rs alike l = is ∙ (rw (f, e) (score_is_lem rows rs l t alike))

        pub cleared : (again : List ℕ) → again ≡ replicate (length left) 0 → again ≡ c
        cleared again zeros =
            let long : length left ≡ (length cands + 1) * stride = ap length f ∙ summed-length stride (length cands * stride) counted ∙ ap length e ∙ rows-length cell (length lanes) n c ∙ c-long in
            zeros ∙ ap (λ (m : ℕ). replicate m 0) long ∙ sym empty
