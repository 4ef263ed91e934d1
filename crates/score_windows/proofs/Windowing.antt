-- A window holds every token that is counted; the loops that find windows and pack them. Assumes nothing.
use mathlib.Core.Path.{◌≡◌, refl, sym, ap, ◌∙◌}
use mathlib.Core.List.{List, [], ◌∷◌, ◌++◌, map}
use Prim.Native.Nat.{ℕ, zero, suc, ◌+◌, ◌-◌, ◌*◌, ◌≤◌, ◌<◌}
use native.Mathlib.Nat.{suc-mul, mul-le-mul_right}
use native.Mathlib.Numerals.{add-one}
use native.Mathlib.Decide.{ℕ_discrete, dec_lt}
use native.Mathlib.Omega.{arith}
use borrow.Author.Tests.{eq-eqb, ne_eqb}
use lib.ListN.{length, get_or, take, drop, length-take, length-drop, length-map, get_or-map}
use lib.Seq.{ext_get_or}
use Rattle.model.specs.Lists.{range}
use Rattle.model.specs.Settings.{toks_per_row}
use Rattle.model.proofs.Places.{length-each, each_at, each_more}
use Rattle.cost.specs.Histograms.{part}
use Rattle.score_windows.specs.declared.Lane.{Lane}
use Rattle.score_windows.specs.Windows.{Window, widened, window_of, window_at, window_start, packed_lane, no_lane, lane_of, preds_of, Packed, Windows}

-- ---- one count more

module _ (w : Window) (t c : ℕ) where
  widened_none : c ≡ 0 → widened w t c ≡ w
  unfolding widened
  widened_none e = rw (eq-eqb c 0 e)

  widened-first : (c ≡ 0 → ⊥) → w.end ≡ 0 → widened w t c ≡ record { first = t; end = t + 1 }
  unfolding widened
  widened-first n e = rw (ne_eqb c 0 n, eq-eqb w.end 0 e)

  widened_more : (c ≡ 0 → ⊥) → (w.end ≡ 0 → ⊥) → widened w t c ≡ record { first = w.first; end = t + 1 }
  unfolding widened
  widened_more n m = rw (ne_eqb c 0 n, ne_eqb w.end 0 m)

pub windows-same : (v w : Window) → v.first ≡ w.first → v.end ≡ w.end → v ≡ w
windows-same v w f e = ap (λ (a : ℕ). record { first = a; end = v.end }) f ∙ ap (λ (b : ℕ). record { first = w.first; end = b }) e

-- ---- a window begins at the first token that is counted, and ends after the last

-- no token is counted
pub window-blank : (h : List ℕ) (n : ℕ) → ((t : ℕ) → t < n → get_or h t 0 ≡ 0) → window_of h n ≡ record { first = 0; end = 0 }
unfolding window_of
window-blank h zero z = refl
window-blank h (suc n) z = widened_none (window_of h n) n (get_or h n 0) (z n (omega arith)) ∙ window-blank h n (λ t l. z t (omega arith))

pub window-first : (h : List ℕ) (n first : ℕ) → first < n → (get_or h first 0 ≡ 0 → ⊥) → ((t : ℕ) → t < first → get_or h t 0 ≡ 0)
    → ((window_of h n).first ≡ first) × ((window_of h n).end ≡ 0 → ⊥)
unfolding window_of
window-first h zero first l c z = absurd (omega arith)
window-first h (suc n) first l c z = go (λ m. window-first h n first m c z) (ℕ_discrete (get_or h n 0) 0) (ℕ_discrete first n)
  where
    go : (first < n → ((window_of h n).first ≡ first) × ((window_of h n).end ≡ 0 → ⊥)) → Dec (get_or h n 0 ≡ 0) → Dec (first ≡ n) → ((widened (window_of h n) n (get_or h n 0)).first ≡ first) × ((widened (window_of h n) n (get_or h n 0)).end ≡ 0 → ⊥)
    go ih (yes e) (yes s) = absurd (c (ap (λ (x : ℕ). get_or h x 0) s ∙ e))
    go ih (yes e) (no s) = rw (widened_none (window_of h n) n (get_or h n 0) e) (ih (omega arith))
    go ih (no e) (yes s) =
        let blank = window-blank h n (λ t m. z t (omega arith)) in
        rw (widened-first (window_of h n) n (get_or h n 0) e (ap (λ (w : Window). w.end) blank)) (sym s, λ x. omega arith)
    go ih (no e) (no s) =
        let there = ih (omega arith) in
        rw (widened_more (window_of h n) n (get_or h n 0) e there.1) (there.0, λ x. omega arith)

pub window-end : (h : List ℕ) (n last : ℕ) → last < n → (get_or h last 0 ≡ 0 → ⊥) → ((t : ℕ) → last < t → t < n → get_or h t 0 ≡ 0)
    → (window_of h n).end ≡ last + 1
unfolding window_of
window-end h zero last l c z = absurd (omega arith)
window-end h (suc n) last l c z = go (λ m. window-end h n last m c (λ t k i. z t k (omega arith))) (ℕ_discrete (get_or h n 0) 0) (ℕ_discrete last n) (ℕ_discrete (window_of h n).end 0)
  where
    go : (last < n → (window_of h n).end ≡ last + 1) → Dec (get_or h n 0 ≡ 0) → Dec (last ≡ n) → Dec ((window_of h n).end ≡ 0) → (widened (window_of h n) n (get_or h n 0)).end ≡ last + 1
    go ih (yes e) (yes s) d = absurd (c (ap (λ (x : ℕ). get_or h x 0) s ∙ e))
    go ih (yes e) (no s) d = rw (widened_none (window_of h n) n (get_or h n 0) e) (ih (omega arith))
    go ih (no e) (no s) d = absurd (e (z n (omega arith) (omega arith)))
    go ih (no e) (yes s) (yes d) = rw (widened-first (window_of h n) n (get_or h n 0) e d) (ap (λ (x : ℕ). x + 1) (sym s))
    go ih (no e) (yes s) (no d) = rw (widened_more (window_of h n) n (get_or h n 0) e d) (ap (λ (x : ℕ). x + 1) (sym s))

-- ---- a window holds every token that is counted

pub record Holds (h : List ℕ) (n : ℕ) (w : Window) : Type 0 where
  pub order : w.first ≤ w.end
  pub inside : w.end ≤ n
  pub before : (t : ℕ) → t < n → t < w.first → get_or h t 0 ≡ 0
  pub after : (t : ℕ) → t < n → w.end ≤ t → get_or h t 0 ≡ 0

pub holds : (h : List ℕ) (n : ℕ) → Holds h n (window_of h n)
unfolding window_of
holds h zero = record { order = omega arith; inside = omega arith; before = λ t l m. absurd (omega arith); after = λ t l m. absurd (omega arith) }
holds h (suc n) = go (window_of h n) (holds h n) (ℕ_discrete (get_or h n 0) 0)
  where
    go : (w : Window) → Holds h n w → Dec (get_or h n 0 ≡ 0) → Holds h (suc n) (widened w n (get_or h n 0))
    go w i (yes z) =
        rw (widened_none w n (get_or h n 0) z)
        (record {
          order = i.order;
          inside = omega (arith, i.inside);
          before = λ t l m. by t (dec_lt t n) (λ u. i.before t u m) l;
          after = λ t l m. by t (dec_lt t n) (λ u. i.after t u m) l;
        })
      where
        by : (t : ℕ) → Dec (t < n) → (t < n → get_or h t 0 ≡ 0) → t < suc n → get_or h t 0 ≡ 0
        by t (yes u) k l = k u
        by t (no u) k l = let same : t ≡ n = omega arith in ap (λ (x : ℕ). get_or h x 0) same ∙ z
    go w i (no nz) = by (ℕ_discrete w.end 0)
      where
        by : Dec (w.end ≡ 0) → Holds h (suc n) (widened w n (get_or h n 0))
        by (yes e) =
            rw (widened-first w n (get_or h n 0) nz e)
            (record { order = omega arith; inside = omega arith; before = λ t l m. i.after t m (omega arith); after = λ t l m. absurd (omega arith) })
        by (no e) =
            rw (widened_more w n (get_or h n 0) nz e)
            (record {
              order = omega (arith, i.order, i.inside);
              inside = omega arith;
              before = λ t l m. i.before t (omega (arith, i.order, i.inside)) m;
              after = λ t l m. absurd (omega arith);
            })

-- ---- packed windows

module _ (node : List ℕ) (alphabet : ℕ) (preds : List ℕ) where
  pub window_holds : (j : ℕ) → Holds (part alphabet (get_or preds j 0) node) alphabet (window_at node alphabet preds j)
  window_holds j = holds (part alphabet (get_or preds j 0) node) alphabet

  pub packed-le : (j : ℕ) → window_start node alphabet preds j ≤ j * alphabet
  unfolding window_start
  packed-le zero = omega arith
  packed-le (suc j) = omega (arith, packed-le j, suc-mul j alphabet, (window_holds j).inside)

  -- for the loop that packs
  pub start_none : window_start node alphabet preds 0 ≡ 0
  unfolding window_start
  start_none = refl

  pub start_more : (j : ℕ) → window_start node alphabet preds (j + 1) ≡ window_start node alphabet preds j + ((window_at node alphabet preds j).end - (window_at node alphabet preds j).first)
  unfolding window_start
  start_more j = rw add-one

  -- the first n lanes
  abbrev pub packed_lanes : ℕ → List Lane
  packed_lanes n = map (packed_lane node alphabet preds) (range 0 n)

  pub packed_more : (n : ℕ) → packed_lanes (n + 1) ≡ packed_lanes n ++ packed_lane node alphabet preds n ∷ []
  packed_more n = ap packed_lanes (add-one n) ∙ each_more (packed_lane node alphabet preds) n

  pub packed-length : (n : ℕ) → length (packed_lanes n) ≡ n
  packed-length n = length-each (packed_lane node alphabet preds) 0 n

  packed-at : (n : ℕ) → Packed node alphabet preds (packed_lanes n) n
  packed-at n j h = each_at (packed_lane node alphabet preds) n j no_lane h

  pub lane-packed : (j : ℕ) (w : Window) → w ≡ window_at node alphabet preds j
      → ◌≡◌ {A = Lane} (record { pred = get_or preds j 0; first = w.first; width = w.end - w.first; off = window_start node alphabet preds j }) (packed_lane node alphabet preds j)
  unfolding packed_lane
  lane-packed j w e = rw e

  -- what a turn of that loop finds
  pub window_bounds : (j : ℕ) (w : Window) → w ≡ window_at node alphabet preds j → (w.first ≤ w.end) × (w.end ≤ alphabet)
  window_bounds j w e =
      let h = window_holds j in
      (omega (arith, ap (λ (x : Window). x.first) e, ap (λ (x : Window). x.end) e, h.order), omega (arith, ap (λ (x : Window). x.end) e, h.inside))

  pub packed-low : (j n : ℕ) → j ≤ n → n ≤ toks_per_row → window_start node alphabet preds j ≤ toks_per_row * alphabet
  packed-low j n h few =
      let long : j * alphabet ≤ toks_per_row * alphabet = mul-le-mul_right alphabet (omega arith) in
      omega (arith, packed-le j)

  -- packed lanes have the side predictors
  pub packed-preds : preds_of (packed_lanes (length preds)) ≡ preds
  unfolding packed_lane
  packed-preds =
      let n = length preds in
      let lanes = packed_lanes n in
      ext_get_or 0 (preds_of lanes) preds (length-map lanes (λ (l : Lane). l.pred) ∙ packed-length n)
      (λ j l. get_or-map (λ (l : Lane). l.pred) lanes j no_lane
      ∙ ap (λ (l : Lane). l.pred) (packed-at n j (omega (arith, packed-length n, length-map lanes (λ (l : Lane). l.pred)))))

  pub windows-set : (stride : ℕ) → stride ≡ window_start node alphabet preds (length preds) → Windows node alphabet (packed_lanes (length preds)) stride
  windows-set stride e =
      let n = length preds in
      record { packed = rw (packed-preds, packed-length n) (packed-at n); end = rw (packed-preds, packed-length n) e }

-- ---- what packed lanes have

-- the window of a lane's predictor
abbrev pub own_window : List ℕ → ℕ → Lane → Window
own_window node alphabet lane = window_of (part alphabet lane.pred node) alphabet

module _ {node : List ℕ} {alphabet : ℕ} {lanes : List Lane} {stride : ℕ} (w : Windows node alphabet lanes stride) where
  pub pred_at : (j : ℕ) → get_or (preds_of lanes) j 0 ≡ (lane_of lanes j).pred
  pred_at j = get_or-map (λ (l : Lane). l.pred) lanes j no_lane

  window-same : (j : ℕ) → window_at node alphabet (preds_of lanes) j ≡ own_window node alphabet (lane_of lanes j)
  window-same j = ap (λ (p : ℕ). window_of (part alphabet p node) alphabet) (pred_at j)

  pub lane-first : (j : ℕ) → j < length lanes → (lane_of lanes j).first ≡ (own_window node alphabet (lane_of lanes j)).first
  unfolding packed_lane
  lane-first j m = ap (λ (l : Lane). l.first) (w.packed j m) ∙ ap (λ (v : Window). v.first) (window-same j)

  pub lane-width : (j : ℕ) → j < length lanes → (lane_of lanes j).width ≡ (own_window node alphabet (lane_of lanes j)).end - (own_window node alphabet (lane_of lanes j)).first
  unfolding packed_lane
  lane-width j m = ap (λ (l : Lane). l.width) (w.packed j m) ∙ ap (λ (v : Window). v.end - v.first) (window-same j)

  lane-off : (j : ℕ) → j < length lanes → (lane_of lanes j).off ≡ window_start node alphabet (preds_of lanes) j
  unfolding packed_lane
  lane-off j m = ap (λ (l : Lane). l.off) (w.packed j m)

  start-next : (j : ℕ) → j < length lanes → window_start node alphabet (preds_of lanes) (suc j) ≡ (lane_of lanes j).off + (lane_of lanes j).width
  unfolding window_start packed_lane
  start-next j m = let off = lane-off j m in let width = ap (λ (l : Lane). l.width) (w.packed j m) in omega arith

  -- one after the other, from 0 to the end of the bin
  pub lane-begins : 0 < length lanes → (lane_of lanes 0).off ≡ 0
  lane-begins m = lane-off 0 m ∙ start_none node alphabet (preds_of lanes)

  pub lane-next : (j : ℕ) → suc j < length lanes → (lane_of lanes j).off + (lane_of lanes j).width ≡ (lane_of lanes (suc j)).off
  lane-next j m = sym (start-next j (omega arith)) ∙ sym (lane-off (suc j) m)

  pub lane-last : (j : ℕ) → suc j ≡ length lanes → (lane_of lanes j).off + (lane_of lanes j).width ≡ stride
  lane-last j e = sym (start-next j (omega arith)) ∙ ap (window_start node alphabet (preds_of lanes)) e ∙ sym w.end

  pub stride-low : stride ≤ length lanes * alphabet
  stride-low = omega (arith, w.end, packed-le node alphabet (preds_of lanes) (length lanes))

-- the part of the node's counts that a slice has
pub part_length : (node : List ℕ) (start alphabet : ℕ) → start + alphabet ≤ length node → length (take (start + alphabet - start) (drop start node)) ≡ alphabet
part_length node start alphabet h = simp (length-take, length-drop) (omega arith)

pub part_window : (node : List ℕ) (start alphabet : ℕ) → start + alphabet ≤ length node
    → window_of (take (start + alphabet - start) (drop start node)) (length (take (start + alphabet - start) (drop start node))) ≡ window_of (take alphabet (drop start node)) alphabet
part_window node start alphabet h =
    let n : start + alphabet - start ≡ alphabet = omega arith in
    ap (window_of (take (start + alphabet - start) (drop start node))) (part_length node start alphabet h) ∙ ap (λ (m : ℕ). window_of (take m (drop start node)) alphabet) n
