-- The lists of windows that C lends and the lanes of `score_windows` say the same, both ways. Assumes nothing.
use mathlib.Core.Path.{◌≡◌, refl, sym, ap, ◌∙◌}
use mathlib.Core.List.{List, [], ◌∷◌, ◌++◌, map}
use Prim.Native.Nat.{ℕ, suc, ◌+◌, ◌-◌, ◌*◌, ◌≤◌, ◌<◌}
use native.Mathlib.Numerals.{add-one}
use native.Mathlib.Decide.{dec_lt}
use native.Mathlib.Omega.{arith}
use lib.ListN.{length, get_or, length-map, set, length-set}
use lib.Seq.{ext_get_or, get_or-set_same, get_or-set_other}
use Rattle.std.specs.Prelude.{ℤ, Float}
use Rattle.model.specs.Lists.{range}
use Rattle.model.specs.Settings.{toks_per_row}
use Rattle.model.proofs.Places.{length-each, each_at, each_more}
use Rattle.score_windows.specs.declared.Lane.{Lane}
use Rattle.score_windows.specs.Windows as lanes
use Rattle.score_windows.specs.Windows.{window_at, window_start, packed_lane, no_lane, lane_of, preds_of}
use Rattle.score_windows.proofs.Windowing.{packed_lanes, packed-preds, windows-set, window_bounds, packed-low}
use Rattle.score.specs.Scored as score
use Rattle.parts.specs.Scored.{Scorable}
use Rattle.parts.specs.Windows.{lane_in, lanes_in, Listed, Windows}

-- ---- from lists to lanes

-- one lane for each side predictor
pub lanes-long : (preds firsts offs : List ℕ) → length (lanes_in preds firsts offs) ≡ length preds
lanes-long preds firsts offs = length-each (lane_in preds firsts offs) 0 (length preds)

-- one lane more, for the loop that makes them
pub lanes-more : (preds firsts offs : List ℕ) (j : ℕ)
    → map (lane_in preds firsts offs) (range 0 j)
    ++ record {
      pred = get_or preds j 0;
      first = get_or firsts j 0;
      width = get_or offs (j + 1) 0 - get_or offs j 0;
      off = get_or offs j 0;
    } ∷ []
    ≡ map (lane_in preds firsts offs) (range 0 (j + 1))
unfolding lane_in
lanes-more preds firsts offs j = rw add-one (sym (each_more (lane_in preds firsts offs) j))

-- the lane of entries j
pub lane-in : (preds firsts offs : List ℕ) (j : ℕ) → j < length preds
    → lane_of (lanes_in preds firsts offs) j ≡ lane_in preds firsts offs j
lane-in preds firsts offs j m = each_at (lane_in preds firsts offs) (length preds) j no_lane m

module _ {node : List ℕ} {alphabet : ℕ} {preds firsts offs : List ℕ}
    (w : Windows node alphabet preds firsts offs) where
  -- the lane of entries j is the packed one: to the next start it is as far as the window is wide
  lane-same : (j : ℕ) → j < length preds → lane_in preds firsts offs j ≡ packed_lane node alphabet preds j
  unfolding lane_in packed_lane window_start
  lane-same j m =
      let first = w.windows.first j m in
      let off = w.windows.start j (omega arith) in
      let next = w.windows.start (suc j) (omega arith) in
      let own = window_at node alphabet preds j in
      let width : get_or offs (suc j) 0 - get_or offs j 0 ≡ own.end - own.first = omega arith in
      cc (first, off, width)

  -- and so are all
  lanes-same : lanes_in preds firsts offs ≡ packed_lanes node alphabet preds (length preds)
  lanes-same =
      let n = length preds in
      let long = lanes-long preds firsts offs in
      let own = packed_lane node alphabet preds in
      ext_get_or no_lane (lanes_in preds firsts offs) (map own (range 0 n)) (long ∙ sym (length-each own 0 n))
      (λ j l. let m : j < n = omega (arith, long) in
      lane-in preds firsts offs j m ∙ lane-same j m ∙ sym (each_at own n j no_lane m))

  -- the lanes have the side predictors that are lent
  pub preds-kept : preds_of (lanes_in preds firsts offs) ≡ preds
  preds-kept = ap preds_of lanes-same ∙ packed-preds node alphabet preds

  -- the lanes made from windows in lists are the packed windows, and the last start is the length of a bin
  pub windows-laned : lanes.Windows node alphabet (lanes_in preds firsts offs) (get_or offs (length preds) 0)
  windows-laned =
      let stride = get_or offs (length preds) 0 in
      rw lanes-same (windows-set node alphabet preds stride (w.windows.start (length preds) (omega arith)))

  -- no window starts before the last one
  pub listed : length preds ≤ toks_per_row → Listed preds firsts offs
  unfolding window_start
  listed few =
      record {
        few = few;
        firsts_there = w.firsts_room;
        offs_there = w.offs_room;
        ascend = λ j m. let off = w.windows.start j (omega arith) in
            let next = w.windows.start (suc j) (omega arith) in
            rw add-one (omega arith);
      }

-- what scoring asks of the lists, it asks of their lanes
pub scorable-laned : {props : List ℤ} {tok : List ℕ} {first end prop : ℕ} {cands : List ℤ} {preds : List ℕ}
    {alphabet : ℕ} {node : List ℕ} {logs : List Float} (firsts offs : List ℕ)
    → Scorable props tok first end prop cands preds alphabet node logs
    → score.Scorable props tok first end prop cands (lanes_in preds firsts offs) alphabet node logs
unfolding lane_in
scorable-laned {preds = preds} firsts offs s =
    let long = lanes-long preds firsts offs in
    record {
      span = s.span;
      props_there = s.props_there;
      property = s.property;
      ascends = s.ascends;
      few_cands = s.few_cands;
      pred = λ j m. let l : j < length preds = omega (arith, long) in
          rw (lane-in preds firsts offs j l) (s.pred j l);
      some_preds = omega (arith, long, s.some_preds);
      few_preds = omega (arith, long, s.few_preds);
      some_tokens = s.some_tokens;
      tokens = s.tokens;
      counts = s.counts;
      reach = s.reach;
    }

-- ---- from lanes to lists

module _ {node : List ℕ} {alphabet : ℕ} {preds : List ℕ} {ls : List Lane} {stride : ℕ}
    (w : lanes.Windows node alphabet ls stride) (same : preds_of ls ≡ preds) where
  -- one lane for each side predictor
  pub lanes-many : length ls ≡ length preds
  lanes-many = sym (length-map ls (λ (l : Lane). l.pred)) ∙ ap length same

  -- the lanes' first tokens and starts, and the length of a bin, are those of the windows
  first-of : (j : ℕ) → j < length preds → (lane_of ls j).first ≡ (window_at node alphabet preds j).first
  unfolding packed_lane
  first-of j m = rw (← same) (ap (λ (l : Lane). l.first) (w.packed j (omega (arith, lanes-many))))

  start-of : (j : ℕ) → j < length preds → (lane_of ls j).off ≡ window_start node alphabet preds j
  unfolding packed_lane
  start-of j m = rw (← same) (ap (λ (l : Lane). l.off) (w.packed j (omega (arith, lanes-many))))

  end-of : stride ≡ window_start node alphabet preds (length preds)
  end-of =
      w.end ∙ ap (λ (p : List ℕ). window_start node alphabet p (length ls)) same
      ∙ ap (window_start node alphabet preds) lanes-many

  -- a first token, a start and a bin's length are small
  pub first-low : (j : ℕ) → j < length preds → (lane_of ls j).first ≤ alphabet
  first-low j m =
      let bounds = window_bounds node alphabet preds j (window_at node alphabet preds j) refl in
      omega (arith, first-of j m, bounds)

  pub start-low : (j : ℕ) → j < length preds → length preds ≤ toks_per_row
      → (lane_of ls j).off ≤ toks_per_row * alphabet
  start-low j m few = omega (arith, start-of j m, packed-low node alphabet preds j (length preds) (omega arith) few)

  pub end-low : length preds ≤ toks_per_row → stride ≤ toks_per_row * alphabet
  end-low few =
      let n = length preds in
      omega (arith, end-of, packed-low node alphabet preds n n (omega arith) few)

  -- where the lanes' first tokens and starts are written, and the length of a bin behind them, the lists are windows
  pub windows-listed : (firsts offs : List ℕ) → length preds ≤ length firsts → length preds < length offs
      → ((j : ℕ) → j < length preds → get_or firsts j 0 ≡ (lane_of ls j).first)
      → ((j : ℕ) → j < length preds → get_or offs j 0 ≡ (lane_of ls j).off)
      → Windows node alphabet preds firsts (set offs (length preds) stride)
  windows-listed firsts offs firsts_room offs_room first start =
      record {
        windows = record {
          first = λ j m. first j m ∙ first-of j m;
          start = λ j m. at j m (dec_lt j n);
        };
        firsts_room = firsts_room;
        offs_room = simp length-set offs_room;
      }
    where
      n : ℕ
      n = length preds

      at : (j : ℕ) → j ≤ n → Dec (j < n) → get_or (set offs n stride) j 0 ≡ window_start node alphabet preds j
      at j m (yes l) =
          get_or-set_other offs n j stride 0 (λ (e : j ≡ n). omega arith) ∙ start j l ∙ start-of j l
      at j m (no k) =
          let last : j ≡ n = omega arith in
          rw last (get_or-set_same offs n stride 0 offs_room ∙ end-of)
