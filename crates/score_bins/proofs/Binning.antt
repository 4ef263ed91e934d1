-- What binning counts: cell x of window j of bin b has the rows of that bin with that token; summed, those at most candidate b. Assumes nothing.
use mathlib.Core.Path.{◌≡◌, refl, sym, ap, ◌∙◌}
use mathlib.Core.Bool.{Bool, true, false, cond, not, ◌&&◌}
use mathlib.Core.List.{List, [], ◌∷◌}
use Prim.Native.Nat.{ℕ, zero, suc, ◌+◌, ◌-◌, ◌*◌, ◌/◌, ◌%◌, ◌≤◌, ◌<◌}
use native.Mathlib.Nat.{suc-mul, mul-le-mul_right, div-add-mod', mod-lt}
use native.Mathlib.Numerals.{add-one}
use native.Mathlib.Decide.{dec_lt}
use native.Mathlib.Omega.{arith}
use borrow.Author.Tests.{eq-eqb, ne_eqb, eqb-true, eqb-false, lt-ltb, le-ltb}
use lib.Dec.{T, eqb, ltb, ltb→lt}
use lib.IntN.{ℤ, pos, negsuc}
use lib.Signed.{lt_z, lt_z_yes, lt_z_no, ◌<ℤ◌, ◌≤ℤ◌, <ℤ-≤ℤ_trans}
use lib.ListN.{length, get_or, drop, drop_of_length-le}
use lib.Seq.{drop-cons, slice, length-slice}
use Rattle.model.specs.Lists.{count_if, keep}
use Rattle.model.specs.Settings.{props_per_row, toks_per_row}
use Rattle.model.specs.Rows.{Row, prop_of, tok_of, is_above, within, rows_of}
use Rattle.model.specs.Cost.{has_token}
use Rattle.model.proofs.Counting.{count_at_most, count-keep}
use Rattle.model.specs.Promise.{no_row}
use Rattle.model.proofs.Places.{length_rows_of, property-at, token-at}
use Rattle.model.proofs.Tests.{true-T}
use Rattle.model.proofs.Slices.{get_d_slice}
use Rattle.cost.specs.Histograms.{span_of}
use Rattle.cost.proofs.Blocks.{part_end}
use Rattle.score_windows.specs.declared.Lane.{Lane}
use Rattle.score_windows.specs.Windows.{lane_of}
use Rattle.score_bins.specs.Bins.{tallied_rows, summed, bin_of, bin_at, lane_cell, bin_cell, Ascends, Low, InLanes, Lanes, SumsLow}
use Rattle.score_bins.proofs.Tallies.{count_to, sum_to, sum_to_le, sum_to_ext, rows_at, rows-length as tallied-rows-length, summed_at, summed-past}
use Rattle.score_bins.proofs.Lanes.{lane-within, bin-hits, sum_rows}

-- ---- candidates in ascending order: at most candidate b is the same as in a bin up to b

false-T : (b : Bool) → b ≡ false → T (not b)
false-T false e = tt
false-T true e = absurd (let z : ◌≡◌ {A = ℕ} 1 0 = ap (λ (b : Bool). cond b 1 0) e in omega arith)

not-both : (a b : ℤ) → T (lt_z a b) → T (lt_z b a) → ⊥
not-both (pos a) (pos b) h k = omega (arith, ltb→lt a b h, ltb→lt b a k)
not-both (pos a) (negsuc b) h k = h
not-both (negsuc a) (pos b) h k = k
not-both (negsuc a) (negsuc b) h k = omega (arith, ltb→lt b a h, ltb→lt a b k)

-- what is not below a value has nothing below it after it
next-above : (c d v : ℤ) → lt_z c d ≡ true → lt_z c v ≡ false → lt_z d v ≡ false
next-above c d v up e = go (lt_z d v) refl
  where
    go : (t : Bool) → lt_z d v ≡ t → t ≡ false
    go false s = refl
    go true s =
        let at_most : v ≤ℤ c = lt_z_no (false-T (lt_z c v) e) in
        let below : d <ℤ v = lt_z_yes (true-T (lt_z d v) s) in
        let falls : d <ℤ c = <ℤ-≤ℤ_trans below at_most in
        absurd (not-both c d (true-T (lt_z c d) up) falls.lt)

stays-above : (cs : List ℤ) (v : ℤ) → Ascends cs → (i d : ℕ) → i + d < length cs → lt_z (get_or cs i (pos 0)) v ≡ false → lt_z (get_or cs (i + d) (pos 0)) v ≡ false
stays-above cs v up i zero h e = let same : i + 0 ≡ i = omega arith in rw same e
stays-above cs v up i (suc d) h e =
    let same : suc (i + d) ≡ i + suc d = omega arith in
    let next = next-above (get_or cs (i + d) (pos 0)) (get_or cs (suc (i + d)) (pos 0)) v (up (i + d) (omega arith)) (stays-above cs v up i d (omega arith) e) in
    ap (λ (k : ℕ). lt_z (get_or cs k (pos 0)) v) (sym same) ∙ next

none_below : (cs : List ℤ) (v : ℤ) → ((j : ℕ) → j < length cs → lt_z (get_or cs j (pos 0)) v ≡ false) → bin_of cs v ≡ 0
unfolding bin_of
none_below [] v h = refl
none_below (c ∷ cs) v h = rw (h 0 (omega arith)) (omega (arith, none_below cs v (λ j l. h (suc j) (omega arith))))

within-bin : (cs : List ℤ) (v : ℤ) (b : ℕ) → Ascends cs → b < length cs → ltb (bin_of cs v) (suc b) ≡ not (lt_z (get_or cs b (pos 0)) v)
unfolding bin_of
within-bin [] v b up l = absurd (omega arith)
within-bin (c ∷ cs) v b up l = go b l (lt_z c v) refl (λ d h. within-bin cs v d (λ i k. up (suc i) (omega arith)) h)
  where
    above : lt_z c v ≡ false → (j : ℕ) → j < length cs → lt_z (get_or cs j (pos 0)) v ≡ false
    above e j h =
        let same : suc j ≡ 0 + suc j = omega arith in
        ap (λ (k : ℕ). lt_z (get_or (c ∷ cs) k (pos 0)) v) same ∙ stays-above (c ∷ cs) v up 0 (suc j) (omega arith) e

    go : (b : ℕ) → b < suc (length cs) → (t : Bool) → lt_z c v ≡ t → ((d : ℕ) → d < length cs → ltb (bin_of cs v) (suc d) ≡ not (lt_z (get_or cs d (pos 0)) v))
        → ltb (cond t 1 0 + bin_of cs v) (suc b) ≡ not (lt_z (get_or (c ∷ cs) b (pos 0)) v)
    go zero l true e ih = rw e (le-ltb (1 + bin_of cs v) 1 (omega arith))
    go zero l false e ih = rw e (lt-ltb (0 + bin_of cs v) 1 (omega (arith, none_below cs v (above e))))
    go (suc b) l true e ih = same (dec_lt (bin_of cs v) (suc b)) ∙ ih b (omega arith)
      where
        same : Dec (bin_of cs v < suc b) → ltb (1 + bin_of cs v) (suc (suc b)) ≡ ltb (bin_of cs v) (suc b)
        same (yes h) = lt-ltb (1 + bin_of cs v) (suc (suc b)) (omega arith) ∙ sym (lt-ltb (bin_of cs v) (suc b) h)
        same (no h) = le-ltb (1 + bin_of cs v) (suc (suc b)) (omega arith) ∙ sym (le-ltb (bin_of cs v) (suc b) (omega arith))
    go (suc b) l false e ih = lt-ltb (0 + bin_of cs v) (suc (suc b)) (omega (arith, none_below cs v (above e))) ∙ sym (ap not (above e b (omega arith)))

pub bin_of_le : (cands : List ℤ) (v : ℤ) → bin_of cands v ≤ length cands
unfolding bin_of
bin_of_le cands v = count_at_most (λ (c : ℤ). lt_z c v) cands

-- ---- the count: the candidates passed, with those that are left

pub bin-turn : (cands : List ℤ) (v : ℤ) (k bin next whole : ℕ) → k < length cands → next ≡ bin + cond (lt_z (get_or cands k (pos 0)) v) 1 0
    → bin + bin_of (drop k cands) v ≡ whole → next + bin_of (drop (k + 1) cands) v ≡ whole
unfolding bin_of
bin-turn cands v k bin next whole h e inv =
    let step : count_if (λ (c : ℤ). lt_z c v) (drop k cands) ≡ cond (lt_z (get_or cands k (pos 0)) v) 1 0 + count_if (λ (c : ℤ). lt_z c v) (drop (suc k) cands) =
    ap (count_if (λ (c : ℤ). lt_z c v)) (drop-cons cands k (pos 0) h) in
    rw add-one (omega arith)

pub bin-end : (cands : List ℤ) (v : ℤ) (k bin whole : ℕ) → length cands ≤ k → bin + bin_of (drop k cands) v ≡ whole → bin ≡ whole
unfolding bin_of
bin-end cands v k bin whole h inv =
    let none : count_if (λ (c : ℤ). lt_z c v) (drop k cands) ≡ 0 = ap (count_if (λ (c : ℤ). lt_z c v)) (drop_of_length-le cands {i = k} h) in
    omega arith

-- ---- the rows of the bins up to b

sum_bins : (bin : Row → ℕ) (q : Row → Bool) (rows : List Row) (b : ℕ)
    → sum_to (λ (a : ℕ). count_if (λ (r : Row). eqb (bin r) a && q r) rows) b ≡ count_if (λ (r : Row). ltb (bin r) b && q r) rows
unfolding sum_to
sum_bins bin q rows zero = sym (none rows)
  where
    none : (rows : List Row) → count_if (λ (r : Row). ltb (bin r) 0 && q r) rows ≡ 0
    none [] = refl
    none (r ∷ rs) = rw (le-ltb (bin r) 0 (omega arith)) (omega (arith, none rs))
sum_bins bin q rows (suc b) = rw (sum_bins bin q rows b) (go rows)
  where
    go : (rows : List Row)
        → count_if (λ (r : Row). ltb (bin r) b && q r) rows + count_if (λ (r : Row). eqb (bin r) b && q r) rows ≡ count_if (λ (r : Row). ltb (bin r) (suc b) && q r) rows
    go [] = refl
    go (r ∷ rs) = by (dec_lt (bin r) b) (dec_lt (bin r) (suc b)) (q r) (go rs)
      where
        by : Dec (bin r < b) → Dec (bin r < suc b) → (t : Bool)
            → count_if (λ (r : Row). ltb (bin r) b && q r) rs + count_if (λ (r : Row). eqb (bin r) b && q r) rs ≡ count_if (λ (r : Row). ltb (bin r) (suc b) && q r) rs
            → cond (ltb (bin r) b && t) 1 0 + count_if (λ (r : Row). ltb (bin r) b && q r) rs + (cond (eqb (bin r) b && t) 1 0 + count_if (λ (r : Row). eqb (bin r) b && q r) rs)
            ≡ cond (ltb (bin r) (suc b) && t) 1 0 + count_if (λ (r : Row). ltb (bin r) (suc b) && q r) rs
        by (yes h) k t ih = rw (lt-ltb (bin r) b h, ne_eqb (bin r) b (λ e. omega arith), lt-ltb (bin r) (suc b) (omega arith)) (omega arith)
        by (no h) (yes k) t ih = rw (le-ltb (bin r) b (omega arith), eq-eqb (bin r) b (omega arith), lt-ltb (bin r) (suc b) k) (omega arith)
        by (no h) (no k) t ih = rw (le-ltb (bin r) b (omega arith), ne_eqb (bin r) b (λ e. omega arith), le-ltb (bin r) (suc b) (omega arith)) (omega arith)

count_ext : (p q : Row → Bool) (rows : List Row) → ((r : Row) → p r ≡ q r) → count_if p rows ≡ count_if q rows
count_ext p q [] h = refl
count_ext p q (r ∷ rs) h = rw (h r, count_ext p q rs h)

-- of the rows that pass a test, those at most candidate b
side_counts : (cands : List ℤ) (prop : ℕ) (rows : List Row) (q : Row → Bool) (b : ℕ) → Ascends cands → b < length cands
    → sum_to (λ (a : ℕ). count_if (λ (r : Row). eqb (bin_of cands (prop_of r prop)) a && q r) rows) (suc b)
    ≡ count_if q (keep (λ (r : Row). not (is_above prop (get_or cands b (pos 0)) r)) rows)
side_counts cands prop rows q b up l =
    sum_bins (λ (r : Row). bin_of cands (prop_of r prop)) q rows (suc b)
    ∙ count_ext (λ (r : Row). ltb (bin_of cands (prop_of r prop)) (suc b) && q r) (λ (r : Row). not (is_above prop (get_or cands b (pos 0)) r) && q r) rows
    (λ r. ap (λ (t : Bool). t && q r) (within-bin cands (prop_of r prop) b up l))
    ∙ sym (count-keep q (λ (r : Row). not (is_above prop (get_or cands b (pos 0)) r)) rows)

-- no sum of at most 33 bins is too large
pub sums_low : (stride bins : ℕ) (c : List ℕ) → bins ≤ 32 → stride + bins * stride ≤ length c → Low 920000 c → SumsLow stride (bins * stride) c
sums_low stride bins c few room l k h = by (dec_lt 0 stride)
  where
    few_bins : k / stride * stride + k % stride ≡ k → k / stride < bins
    few_bins e = elim (dec_lt (k / stride) bins) [
      | yes u ↦ u
      | no u ↦ (let m : bins ≤ k / stride = omega arith in absurd (omega (arith, mul-le-mul_right stride m)))
    ]

    by : Dec (0 < stride) → get_or (summed stride k c) (stride + k) 0 + get_or (summed stride k c) k 0 ≤ 4000000000
    by (no z) = let none : stride ≡ 0 = omega arith in let nothing : bins * stride ≡ bins * 0 = ap (λ (s : ℕ). bins * s) none in absurd (omega arith)
    by (yes some) =
        let b = k / stride in
        let y = k % stride in
        let whole : b * stride + y ≡ k = div-add-mod' k stride in
        let small : y < stride = mod-lt k some in
        let place : get_or (summed stride k c) k 0 ≡ get_or (summed stride k c) (b * stride + y) 0 = ap (λ (i : ℕ). get_or (summed stride k c) i 0) (sym whole) in
        let own : get_or (summed stride k c) k 0 ≡ sum_to (λ (a : ℕ). get_or c (a * stride + y) 0) (suc b) = place ∙ summed_at stride k c b y (omega arith) small (omega arith) in
        let next : get_or (summed stride k c) (stride + k) 0 ≡ get_or c (stride + k) 0 = summed-past stride k c (stride + k) (omega arith) in
        let sum = sum_to_le (λ (a : ℕ). get_or c (a * stride + y) 0) 920000 (suc b) (λ a. l (a * stride + y)) in
        omega (arith, l (stride + k), few_bins whole)

-- ---- the rows that flat lists hold

-- the span's n rows
pub record Held (ps : List ℤ) (tok : List ℕ) (first n : ℕ) (rows : List Row) : Type 0 where
  pub long : length rows ≡ n
  pub token : (k p : ℕ) → k < n → p < toks_per_row → tok_of (get_or rows k no_row) p ≡ get_or tok ((first + k) * toks_per_row + p) 0
  pub property : (k q : ℕ) → k < n → q < props_per_row → prop_of (get_or rows k no_row) q ≡ get_or ps ((first + k) * props_per_row + q) (pos 0)

pub held : (ps : List ℤ) (tok : List ℕ) (first end rows : ℕ) (rs : List ℤ) → first ≤ end → end ≤ rows → Held ps tok first (end - first) (within (span_of first end) (rows_of rows ps tok rs))
held ps tok first end rows rs o h =
    record {
      long = length-slice first end all (omega (arith, length_rows_of rows ps tok rs));
      token = λ k p l m. ap (λ (r : Row). tok_of r p) (at k l) ∙ token-at rows ps tok rs (first + k) p (omega arith) m;
      property = λ k q l m. ap (λ (r : Row). prop_of r q) (at k l) ∙ property-at rows ps tok rs (first + k) q (omega arith) m;
    }
  where
    all : List Row
    all = rows_of rows ps tok rs

    at : (k : ℕ) → k < end - first → get_or (slice first end all) k no_row ≡ get_or all (first + k) no_row
    at k l = get_d_slice first end all k no_row (omega arith)

-- ---- a span in windows

module _ (ps : List ℤ) (tok : List ℕ) (first n prop : ℕ) (cands : List ℤ) (lanes : List Lane) (stride : ℕ) (w : Lanes tok first n lanes stride) where
  place_in : (k j : ℕ) → k < n → j < length lanes → get_or tok ((first + k) * toks_per_row + (lane_of lanes j).pred) 0 - (lane_of lanes j).first < (lane_of lanes j).width
  place_in k j h l = omega (arith, w.from k j h l, w.below k j h l)

  pub bin-room : (k j : ℕ) → k < n → j < length lanes → bin_cell ps tok first prop cands lanes stride k j < (length cands + 1) * stride
  unfolding bin_at
  bin-room k j h l =
      let bin = bin_at cands prop ps (first + k) in
      let few : bin < length cands + 1 = omega (arith, bin_of_le cands (get_or ps ((first + k) * props_per_row + prop) (pos 0))) in
      let end = part_end bin (length cands + 1) stride few in
      let in-bin = lane-within (length lanes) stride (λ (j : ℕ). (lane_of lanes j).off) (λ (j : ℕ). (lane_of lanes j).width) w.next w.last j (get_or tok ((first + k) * toks_per_row + (lane_of lanes j).pred) 0 - (lane_of lanes j).first) l (place_in k j h l) in
      omega arith

  -- the tokens of the span's row k, as a list of its own
  module _ (k : ℕ) (h : k < n) (toks : List ℕ) (long : length toks ≡ toks_per_row)
      (at : (p : ℕ) → p < toks_per_row → get_or toks p 0 ≡ get_or tok ((first + k) * toks_per_row + p) 0) (bin : ℕ) (is : bin ≡ bin_at cands prop ps (first + k)) where
    pub row-cell : (j : ℕ) → j < length lanes → lane_cell toks lanes (bin * stride) j ≡ bin_cell ps tok first prop cands lanes stride k j
    row-cell j l = rw (is, at (lane_of lanes j).pred (w.pred j l)) refl

    pub in_lanes : (size : ℕ) → (length cands + 1) * stride ≤ size → InLanes toks lanes (bin * stride) size
    in_lanes size room =
        record {
          few = w.few;
          pred = λ j l. omega (arith, w.pred j l);
          from = λ j l. omega (arith, at (lane_of lanes j).pred (w.pred j l), w.from k j h l);
          room = λ j l. omega (arith, row-cell j l, bin-room k j h l);
        }

  eqb-place : (t f x : ℕ) → f ≤ t → eqb (t - f) x ≡ eqb t (f + x)
  eqb-place t f x h = go (eqb (t - f) x) refl
    where
      go : (b : Bool) → eqb (t - f) x ≡ b → b ≡ eqb t (f + x)
      go true e = sym (eq-eqb t (f + x) (omega (arith, eqb-true (t - f) x e)))
      go false e = sym (ne_eqb t (f + x) (λ s. eqb-false (t - f) x e (omega arith)))

  module _ (rows : List Row) (hold : Held ps tok first n rows) (p24 : prop < props_per_row) (c : List ℕ) (z : Low 0 c) (room : length c ≡ (length cands + 1) * stride) where
    cell-counts : (b j x : ℕ) → j < length lanes → x < (lane_of lanes j).width
        → get_or (tallied_rows (bin_cell ps tok first prop cands lanes stride) (length lanes) n c) (b * stride + ((lane_of lanes j).off + x)) 0
        ≡ count_if (λ (r : Row). eqb (bin_of cands (prop_of r prop)) b && has_token (lane_of lanes j).pred ((lane_of lanes j).first + x) r) rows
    unfolding bin_at
    cell-counts b j x l hx =
        let i = b * stride + ((lane_of lanes j).off + x) in
        let f : ℕ → ℕ → ℕ = bin_cell ps tok first prop cands lanes stride in
        let all = rows_at f (length lanes) n c (λ k j a l. omega (arith, bin-room k j a l)) i in
        let sum = sum_rows (λ (r : Row). eqb (bin_of cands (prop_of r prop)) b && has_token (lane_of lanes j).pred ((lane_of lanes j).first + x) r) no_row rows
        (λ (k : ℕ). count_to (λ (i' : ℕ). eqb (f k i') i) (length lanes)) (λ k h. each k (omega (arith, hold.long))) in
        let many : sum_to (λ (k : ℕ). count_to (λ (i' : ℕ). eqb (f k i') i) (length lanes)) (length rows) ≡ sum_to (λ (k : ℕ). count_to (λ (i' : ℕ). eqb (f k i') i) (length lanes)) n =
        ap (sum_to (λ (k : ℕ). count_to (λ (i' : ℕ). eqb (f k i') i) (length lanes))) hold.long in
        omega (arith, z i)
      where
        each : (k : ℕ) → k < n → count_to (λ (i' : ℕ). eqb (bin_cell ps tok first prop cands lanes stride k i') (b * stride + ((lane_of lanes j).off + x))) (length lanes)
            ≡ cond (eqb (bin_of cands (prop_of (get_or rows k no_row) prop)) b && has_token (lane_of lanes j).pred ((lane_of lanes j).first + x) (get_or rows k no_row)) 1 0
        each k h =
            rw (
              hold.property k prop h p24,
              hold.token k (lane_of lanes j).pred h (w.pred j l),
              ← eqb-place (get_or tok ((first + k) * toks_per_row + (lane_of lanes j).pred) 0) (lane_of lanes j).first x (w.from k j h l),
            )
            (bin-hits (length lanes) stride (λ (j : ℕ). (lane_of lanes j).off) (λ (j : ℕ). (lane_of lanes j).width) w.next w.last (λ (j : ℕ). get_or tok ((first + k) * toks_per_row + (lane_of lanes j).pred) 0 - (lane_of lanes j).first)
            (bin_of cands (get_or ps ((first + k) * props_per_row + prop) (pos 0))) b j x (λ j l. place_in k j h l) l hx)

    -- summed, the rows at most candidate b with that token
    pub left-counts : Ascends cands → (b j x : ℕ) → b < length cands → j < length lanes → x < (lane_of lanes j).width
        → get_or (summed stride (length cands * stride) (tallied_rows (bin_cell ps tok first prop cands lanes stride) (length lanes) n c)) (b * stride + ((lane_of lanes j).off + x)) 0
        ≡ count_if (has_token (lane_of lanes j).pred ((lane_of lanes j).first + x)) (keep (λ (r : Row). not (is_above prop (get_or cands b (pos 0)) r)) rows)
    left-counts up b j x hb l hx =
        let d = tallied_rows (bin_cell ps tok first prop cands lanes stride) (length lanes) n c in
        let y = (lane_of lanes j).off + x in
        let long = tallied-rows-length (bin_cell ps tok first prop cands lanes stride) (length lanes) n c in
        let all : (length cands + 1) * stride ≡ stride + length cands * stride = ap (λ (k : ℕ). k * stride) (add-one (length cands)) ∙ suc-mul (length cands) stride ∙ omega arith in
        let end = part_end b (length cands) stride hb in
        let in-bin : y < stride = omega (arith, lane-within (length lanes) stride (λ (j : ℕ). (lane_of lanes j).off) (λ (j : ℕ). (lane_of lanes j).width) w.next w.last j x l hx) in
        summed_at stride (length cands * stride) d b y (omega arith) in-bin (omega arith)
        ∙ sum_to_ext (λ (a : ℕ). get_or d (a * stride + y) 0)
        (λ (a : ℕ). count_if (λ (r : Row). eqb (bin_of cands (prop_of r prop)) a && has_token (lane_of lanes j).pred ((lane_of lanes j).first + x) r) rows) (suc b)
        (λ a h. cell-counts a j x l hx)
        ∙ side_counts cands prop rows (has_token (lane_of lanes j).pred ((lane_of lanes j).first + x)) b up hb
