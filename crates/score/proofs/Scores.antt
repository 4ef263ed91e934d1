-- From the counts of windows to the model's scores: the lowest over predictors, the first of the lowest over candidates, and a side's cost from
-- its window. Assumes nothing.
use mathlib.Core.Path.{◌≡◌, refl, sym, ap, ◌∙◌}
use mathlib.Core.Bool.{Bool, not}
use mathlib.Core.List.{List, [], ◌∷◌, ◌++◌}
use Prim.Native.Nat.{ℕ, zero, suc, ◌+◌, ◌-◌, ◌≤◌, ◌<◌}
use native.Mathlib.Numerals.{add-one}
use native.Mathlib.Decide.{dec_lt}
use native.Mathlib.Omega.{arith}
use borrow.Author.Tests.{eq-eqb, ne_eqb}
use lib.IntN.{ℤ, pos}
use lib.ListN.{length, get_or, take, drop, length-take, length-drop, take-append-drop, get_or-eq_default}
use lib.Seq.{ext_get_or, get_or-take, get_or-drop, take-suc}
use lib.Ieee.{Float, nan}
use Rattle.model.specs.Lists.{keep}
use Rattle.model.specs.Settings.{Settings, max_rows}
use Rattle.model.specs.Rows.{Row}
use Rattle.model.specs.Single.{singles}
use Rattle.model.specs.Cost.{with_count, has_token, histogram, log_of, entropy_from, extra_from, histogram_cost, cost_of}
use Rattle.model.specs.Score.{Score, nothing, threshold, lower, lowest_cost, side_cost, score_sides, score_from}
use Rattle.model.proofs.Places.{get_d_any}
use Rattle.cost.specs.Counted.{rows_in}
use Rattle.cost.proofs.Sums.{entropy_zeros}
use Rattle.cost.proofs.Histograms.{histogram-length, histogram-rows}
use Rattle.score_sides.specs.declared.Sides.{Sides}
use Rattle.score_sides.specs.Sides.{rest, costs_of, lower_cost, SideCounted}
use Rattle.score_windows.specs.declared.Lane.{Lane}
use Rattle.score_sides.specs.Lowest.{run, costs_at, lowest_to}
use Rattle.score_sides.proofs.Sweeps.{rest-length, rest_at}
use Rattle.score.specs.Scored.{scored_sides, size_at, scored_bin, scored_to}
use Rattle.score.proofs.Packing.{histogram-at}
use Rattle.score.proofs.Counting.{count-sides, rows_in-parts, rows_in-none}

-- ---- for the loops

pub scored_to-none : (f : ℕ → Score singles) → scored_to f 0 ≡ nothing
unfolding scored_to
scored_to-none f = refl

pub scored_to-more : (f : ℕ → Score singles) (n : ℕ) → scored_to f (n + 1) ≡ lower (scored_to f n) (f n)
unfolding scored_to
scored_to-more f n = rw add-one

pub lower-step : (f : ℕ → Score singles) (n : ℕ) (best next r : Score singles) → best ≡ scored_to f n → next ≡ f n → r ≡ lower best next → r ≡ scored_to f (n + 1)
lower-step f n best next r b e h = h ∙ ap (λ (s : Score singles). lower s next) b ∙ ap (lower (scored_to f n)) e ∙ sym (scored_to-more f n)

-- ---- a threshold by the sizes of its sides

module _ (size total : ℕ) (val : ℤ) (sides : Sides) where
  pub scored_no_le : size ≡ 0 → scored_sides size total val sides ≡ nothing
  unfolding scored_sides
  scored_no_le e = rw (eq-eqb size 0 e)

  pub scored_no_gt : (size ≡ 0 → ⊥) → size ≡ total → scored_sides size total val sides ≡ nothing
  unfolding scored_sides
  scored_no_gt n e = rw (ne_eqb size 0 n, eq-eqb size total e)

  pub scored-both : (size ≡ 0 → ⊥) → (size ≡ total → ⊥) → scored_sides size total val sides ≡ threshold val (singles.plus sides.le sides.gt) size
  unfolding scored_sides
  scored-both n m = rw (ne_eqb size 0 n, ne_eqb size total m)

module _ (t : Settings singles) (logs : List Float) (ps : List ℕ) (val : ℤ) where
  pub sides_no_le : (le gt : List Row) → length le ≡ 0 → score_sides t logs ps val le gt ≡ nothing
  unfolding score_sides
  sides_no_le [] gt h = refl
  sides_no_le (l ∷ ls) gt h = absurd (omega arith)

  pub sides_no_gt : (le gt : List Row) → length gt ≡ 0 → score_sides t logs ps val le gt ≡ nothing
  unfolding score_sides
  sides_no_gt [] gt h = refl
  sides_no_gt (l ∷ ls) [] h = refl
  sides_no_gt (l ∷ ls) (g ∷ gs) h = absurd (omega arith)

  pub sides-both : (le gt : List Row) → 0 < length le → 0 < length gt
      → score_sides t logs ps val le gt ≡ threshold val (singles.plus (side_cost t logs ps le) (side_cost t logs ps gt)) (length le)
  unfolding score_sides
  sides-both [] gt h k = absurd (omega arith)
  sides-both (l ∷ ls) [] h k = absurd (omega arith)
  sides-both (l ∷ ls) (g ∷ gs) h k = refl

-- ---- the lowest over predictors, and over candidates, as the model has them

lowest_cost_append : (cost : ℕ → Float) (best : Float) (ps : List ℕ) (p : ℕ) → lowest_cost singles cost best (ps ++ (p ∷ [])) ≡ lower_cost (lowest_cost singles cost best ps) (cost p)
unfolding lowest_cost
lowest_cost_append cost best [] p = refl
lowest_cost_append cost best (q ∷ ps) p = lowest_cost_append cost (lower_cost best (cost q)) ps p

lowest_cost-more : (cost : ℕ → Float) (ps : List ℕ) (n : ℕ) → n < length ps
    → lowest_cost singles cost singles.endless (take (suc n) ps) ≡ lower_cost (lowest_cost singles cost singles.endless (take n ps)) (cost (get_or ps n 0))
lowest_cost-more cost ps n h = ap (lowest_cost singles cost singles.endless) (take-suc ps n 0 h) ∙ lowest_cost_append cost singles.endless (take n ps) (get_or ps n 0)

lowest_cost-none : (cost : ℕ → Float) → lowest_cost singles cost singles.endless [] ≡ singles.endless
unfolding lowest_cost
lowest_cost-none cost = refl

pub lowest-is : (f : ℕ → Sides) (le gt : ℕ → Float) (ps : List ℕ) → ((j : ℕ) → j < length ps → f j ≡ record { le = le (get_or ps j 0); gt = gt (get_or ps j 0) })
    → (n : ℕ) → n ≤ length ps
    → ((lowest_to f n).le ≡ lowest_cost singles le singles.endless (take n ps)) × ((lowest_to f n).gt ≡ lowest_cost singles gt singles.endless (take n ps))
unfolding lowest_to
lowest-is f le gt ps h zero l = (sym (lowest_cost-none le), sym (lowest_cost-none gt))
lowest-is f le gt ps h (suc n) l =
    let ih = lowest-is f le gt ps h n (omega arith) in
    let own = h n (omega arith) in (
      ap (λ (b : Float). lower_cost b (f n).le) ih.0 ∙ ap (λ (s : Sides). lower_cost (lowest_cost singles le singles.endless (take n ps)) s.le) own ∙ sym (lowest_cost-more le ps n (omega arith)),
      ap (λ (b : Float). lower_cost b (f n).gt) ih.1 ∙ ap (λ (s : Sides). lower_cost (lowest_cost singles gt singles.endless (take n ps)) s.gt) own ∙ sym (lowest_cost-more gt ps n (omega arith)),
    )

score_from_append : (score : ℤ → Score singles) (best : Score singles) (cs : List ℤ) (c : ℤ) → score_from score best (cs ++ (c ∷ [])) ≡ lower (score_from score best cs) (score c)
unfolding score_from
score_from_append score best [] c = refl
score_from_append score best (d ∷ cs) c = score_from_append score (lower best (score d)) cs c

score_from-more : (score : ℤ → Score singles) (cs : List ℤ) (n : ℕ) → n < length cs
    → score_from score nothing (take (suc n) cs) ≡ lower (score_from score nothing (take n cs)) (score (get_or cs n (pos 0)))
score_from-more score cs n h = ap (score_from score nothing) (take-suc cs n (pos 0) h) ∙ score_from_append score nothing (take n cs) (get_or cs n (pos 0))

score_from-none : (score : ℤ → Score singles) → score_from score nothing [] ≡ nothing
unfolding score_from
score_from-none score = refl

pub scored-is : (f : ℕ → Score singles) (score : ℤ → Score singles) (cs : List ℤ) → ((k : ℕ) → k < length cs → f k ≡ score (get_or cs k (pos 0))) → (n : ℕ) → n ≤ length cs
    → scored_to f n ≡ score_from score nothing (take n cs)
unfolding scored_to
scored-is f score cs h zero l = sym (score_from-none score)
scored-is f score cs h (suc n) l =
    ap (λ (b : Score singles). lower b (f n)) (scored-is f score cs h n (omega arith)) ∙ ap (lower (score_from score nothing (take n cs))) (h n (omega arith))
    ∙ sym (score_from-more score cs n (omega arith))

-- ---- a window outside which every count is zero has the whole cost

extra-zeros : (t : ℕ) (h : List ℕ) → rows_in h ≡ 0 → extra_from t h ≡ 0
unfolding extra_from rows_in
extra-zeros t [] z = refl
extra-zeros t (zero ∷ cs) z = omega (arith, extra-zeros (suc t) cs (omega arith))
extra-zeros t (suc c ∷ cs) z = absurd (omega arith)

extra_append : (t : ℕ) (xs ys : List ℕ) → extra_from t (xs ++ ys) ≡ extra_from t xs + extra_from (t + length xs) ys
unfolding extra_from
extra_append t [] ys = let e : t + 0 ≡ t = omega arith in rw e (omega arith)
extra_append t (x ∷ xs) ys =
    let e : suc t + length xs ≡ t + suc (length xs) = omega arith in
    let ih = extra_append (suc t) xs ys in
    let s : extra_from (suc t + length xs) ys ≡ extra_from (t + suc (length xs)) ys = ap (λ (n : ℕ). extra_from n ys) e in
    omega arith

entropy_append : (logs : List Float) (top bits : Float) (xs ys : List ℕ) → entropy_from singles logs top bits (xs ++ ys) ≡ entropy_from singles logs top (entropy_from singles logs top bits xs) ys
unfolding entropy_from
entropy_append logs top bits [] ys = refl
entropy_append logs top bits (x ∷ xs) ys = entropy_append logs top (with_count singles logs top bits x) xs ys

pub record Inside (h : List ℕ) (first width : ℕ) : Type 0 where
  pub fits : first + width ≤ length h
  pub before : (t : ℕ) → t < first → get_or h t 0 ≡ 0
  pub after : (t : ℕ) → first + width ≤ t → get_or h t 0 ≡ 0

module _ (h : List ℕ) (first width : ℕ) (w : Inside h first width) where
  none_before : rows_in (take first h) ≡ 0
  none_before = rows_in-none (take first h) (λ t l. let lt : t < first = omega (arith, length-take first h) in get_or-take first h t 0 lt ∙ w.before t lt)

  none_after : rows_in (drop width (drop first h)) ≡ 0
  none_after =
      rows_in-none (drop width (drop first h)) (λ t l. get_or-drop width (drop first h) t 0 ∙ get_or-drop first h (width + t) 0 ∙ w.after (first + (width + t)) (omega arith))

  pub rows_window : rows_in (run h first width) ≡ rows_in h
  rows_window = omega (arith, rows_in-parts first h, rows_in-parts width (drop first h), none_before, none_after)

  pub extra_window : extra_from first (run h first width) ≡ extra_from 0 h
  extra_window =
      let a = extra_append 0 (take first h) (drop first h) in
      let b = extra_append first (take width (drop first h)) (drop width (drop first h)) in
      let z = extra-zeros 0 (take first h) none_before in
      let y = extra-zeros (first + length (take width (drop first h))) (drop width (drop first h)) none_after in
      let whole = ap (extra_from 0) (take-append-drop first h) in
      let inner = ap (extra_from first) (take-append-drop width (drop first h)) in
      let long : length (take first h) ≡ first = length-take first h ∙ omega (arith, w.fits) in
      let from : extra_from (0 + length (take first h)) (drop first h) ≡ extra_from first (drop first h) = ap (λ (n : ℕ). extra_from n (drop first h)) (omega arith) in
      omega arith

  entropy_window : (logs : List Float) (top bits : Float) → entropy_from singles logs top bits (run h first width) ≡ entropy_from singles logs top bits h
  entropy_window logs top bits =
      sym (entropy_zeros logs top (entropy_from singles logs top bits (run h first width)) (drop width (drop first h)) none_after)
      ∙ sym (entropy_append logs top bits (run h first width) (drop width (drop first h)))
      ∙ ap (entropy_from singles logs top bits) (take-append-drop width (drop first h))
      ∙ ap (λ (b : Float). entropy_from singles logs top b (drop first h)) (sym (entropy_zeros logs top bits (take first h) none_before))
      ∙ sym (entropy_append logs top bits (take first h) (drop first h))
      ∙ ap (entropy_from singles logs top bits) (take-append-drop first h)

  pub cost_window : (total : ℕ) (logs : List Float)
      → singles.plus (entropy_from singles logs (log_of singles logs total) singles.nought (run h first width)) (singles.extra (extra_from first (run h first width)))
      ≡ histogram_cost singles logs total h
  unfolding histogram_cost
  cost_window total logs = rw (entropy_window logs (log_of singles logs total) singles.nought, extra_window)

-- ---- a window with the counts of one side and of both has both sides' costs

pub run_length : (h : List ℕ) (at n : ℕ) → at + n ≤ length h → length (run h at n) ≡ n
run_length h at n l = length-take n (drop at h) ∙ (let d = length-drop at h in omega arith)

pub run_at : (h : List ℕ) (at n x : ℕ) → x < n → get_or (run h at n) x 0 ≡ get_or h (at + x) 0
run_at h at n x l = get_or-take n (drop at h) x 0 l ∙ get_or-drop at h x 0

module _ (alphabet p first width : ℕ) (rows : List Row) (above : Row → Bool) (w : Inside (histogram alphabet p rows) first width) where
  abbrev both : List ℕ
  both = histogram alphabet p rows

  abbrev le : List ℕ
  le = histogram alphabet p (keep (λ (r : Row). not (above r)) rows)

  abbrev gt : List ℕ
  gt = histogram alphabet p (keep above rows)

  le-long : length (histogram alphabet p (keep (λ (r : Row). not (above r)) rows)) ≡ alphabet
  le-long = histogram-length alphabet p (keep (λ (r : Row). not (above r)) rows)

  gt-long : length (histogram alphabet p (keep above rows)) ≡ alphabet
  gt-long = histogram-length alphabet p (keep above rows)

  both_long : length (histogram alphabet p rows) ≡ alphabet
  both_long = histogram-length alphabet p rows

  -- past the alphabet nothing is counted
  split : (t : ℕ) → get_or (histogram alphabet p (keep (λ (r : Row). not (above r)) rows)) t 0 + get_or (histogram alphabet p (keep above rows)) t 0 ≡ get_or (histogram alphabet p rows) t 0
  split t = go (dec_lt t alphabet)
    where
      go : Dec (t < alphabet) → get_or (histogram alphabet p (keep (λ (r : Row). not (above r)) rows)) t 0 + get_or (histogram alphabet p (keep above rows)) t 0 ≡ get_or (histogram alphabet p rows) t 0
      go (yes h) =
          let a = histogram-at alphabet p (keep (λ (r : Row). not (above r)) rows) t h in
          let b = histogram-at alphabet p (keep above rows) t h in
          let c = histogram-at alphabet p rows t h in
          omega (arith, count-sides (has_token p t) above rows)
      go (no h) =
          let a = get_or-eq_default le 0 {n = t} (omega (arith, le-long)) in
          let b = get_or-eq_default gt 0 {n = t} (omega (arith, gt-long)) in
          let c = get_or-eq_default both 0 {n = t} (omega (arith, both_long)) in
          omega arith

  pub inside-le : Inside (histogram alphabet p (keep (λ (r : Row). not (above r)) rows)) first width
  inside-le =
      record { fits = omega (arith, w.fits, both_long, le-long); before = λ t h. omega (arith, w.before t h, split t); after = λ t h. omega (arith, w.after t h, split t) }

  inside-gt : Inside (histogram alphabet p (keep above rows)) first width
  inside-gt =
      record { fits = omega (arith, w.fits, both_long, gt-long); before = λ t h. omega (arith, w.before t h, split t); after = λ t h. omega (arith, w.after t h, split t) }

  rest-is : rest (run (histogram alphabet p rows) first width) (run (histogram alphabet p (keep (λ (r : Row). not (above r)) rows)) first width) ≡ run (histogram alphabet p (keep above rows)) first width
  rest-is =
      let node = run both first width in
      let left = run le first width in
      let right = run gt first width in
      let ln = run_length both first width w.fits in
      let ll = run_length le first width inside-le.fits in
      let lr = run_length gt first width inside-gt.fits in
      let same : length node ≡ length left = omega arith in
      let long = rest-length node left same in
      ext_get_or 0 (rest node left) right (omega arith)
      (λ x l.
      let lx : x < width = omega arith in
      let a = rest_at node left x same in
      let b = run_at both first width x lx in
      let c = run_at le first width x lx in
      let d = run_at gt first width x lx in
      let s = split (first + x) in
      omega arith)

  pub window_costs : (t : Settings singles) (logs : List Float) → t.alphabet ≡ alphabet
      → costs_of (run (histogram alphabet p (keep (λ (r : Row). not (above r)) rows)) first width) (run (histogram alphabet p rows) first width) first
      (record { le = log_of singles logs (length (keep (λ (r : Row). not (above r)) rows)); gt = log_of singles logs (length (keep above rows)) }) logs
      ≡ record { le = cost_of t logs (keep (λ (r : Row). not (above r)) rows) p; gt = cost_of t logs (keep above rows) p }
  unfolding costs_of cost_of
  window_costs t logs e =
      rw (rest-is, cost_window le first width inside-le (length (keep (λ (r : Row). not (above r)) rows)) logs, cost_window gt first width inside-gt (length (keep above rows)) logs, e)

  pub window_counted : (logs : List Float) → length rows ≤ max_rows → length rows < length logs
      → SideCounted (run (histogram alphabet p (keep (λ (r : Row). not (above r)) rows)) first width) (run (histogram alphabet p rows) first width) logs
  window_counted logs small reach =
      let some = histogram-rows alphabet p rows in
      let same = rows_window both first width w in
      let ln = run_length both first width w.fits in
      let ll = run_length le first width inside-le.fits in
      record { long = omega arith; under = under; small = omega arith; reach = omega arith }
    where
      under : (t : ℕ) → get_or (run (histogram alphabet p (keep (λ (r : Row). not (above r)) rows)) first width) t 0 ≤ get_or (run (histogram alphabet p rows) first width) t 0
      under t = elim (dec_lt t width) [
        | yes l ↦ omega (arith, run_at both first width t l, run_at le first width t l, split (first + t))
        | no l ↦ omega (arith, get_or-eq_default (run le first width) 0 {n = t} (omega (arith, run_length le first width inside-le.fits)))
      ]

-- ---- a candidate, by how many rows its bin counts

module _ (bin node : List ℕ) (alphabet : ℕ) (lanes : List Lane) (total : ℕ) (logs : List Float) (val : ℤ) (size : ℕ) (is : size ≡ size_at bin lanes) where
  pub at_no_le : size ≡ 0 → nothing ≡ scored_bin bin node alphabet lanes total logs val
  unfolding scored_bin
  at_no_le e = sym (scored_no_le _ _ _ _ (sym is ∙ e))

  pub at_no_gt : (size ≡ 0 → ⊥) → size ≡ total → nothing ≡ scored_bin bin node alphabet lanes total logs val
  unfolding scored_bin
  at_no_gt z e = sym (scored_no_gt _ _ _ _ (λ s. z (is ∙ s)) (sym is ∙ e))

  pub at_both : (size ≡ 0 → ⊥) → (size ≡ total → ⊥) → size ≤ total → total < length logs → (sides : Sides)
      → sides ≡ lowest_to (costs_at bin node alphabet lanes (record { le = get_or logs size nan; gt = get_or logs (total - size) nan }) logs) (length lanes)
      → threshold val (singles.plus sides.le sides.gt) size ≡ scored_bin bin node alphabet lanes total logs val
  unfolding scored_bin log_of
  at_both z f low reach sides e =
      let lowest : Float → Float → Sides = λ a b. lowest_to (costs_at bin node alphabet lanes (record { le = a; gt = b }) logs) (length lanes) in
      let le = get_d_any logs size nan singles.nought (omega arith) in
      let gt = get_d_any logs (total - size) nan singles.nought (omega arith) in
      ap (λ (b : Sides). threshold val (singles.plus b.le b.gt) size)
      (e ∙ ap (λ (a : Float). lowest a (get_or logs (total - size) nan)) le ∙ ap (lowest (get_or logs size singles.nought)) gt)
      ∙ sym (scored-both size total val (lowest (get_or logs size singles.nought) (get_or logs (total - size) singles.nought)) z f)
      ∙ ap (λ (n : ℕ). scored_sides n total val (lowest (get_or logs n singles.nought) (get_or logs (total - n) singles.nought))) is
