-- `score_windows::set_windows` meets its contract: the windows passed are packed. Assumes nothing.
use mathlib.Core.Path.{◌≡◌, sym, ap, ◌∙◌}
use mathlib.Core.List.{List, [], ◌∷◌, ◌++◌}
use Prim.Native.Nat.{ℕ, ◌≤◌, ◌<◌, ◌+◌, ◌-◌, ◌*◌}
use native.Mathlib.Omega.{arith}
use lib.ListN.{length, get_or}
use Rattle.model.specs.Settings.{toks_per_row}
use Rattle.cost.proofs.Blocks.{part_end}
use Rattle.score_windows.specs.declared.Lane.{Lane}
use Rattle.score_windows.specs.Windows.{Window, window_at, window_start, Windowable}
use Rattle.score_windows.proofs.Windowing.{windows-same, packed-low, start_none, start_more, packed_lanes, packed_more, packed-length, lane-packed, packed-preds, windows-set, part_window, window_bounds}
use Rattle.score_windows.proofs.set_windows.Goals as goal
use Rattle.score_windows.proofs.set_windows.Goals.{After-window_of-first}

-- what a turn knows
pub record Here (node preds : List ℕ) (alphabet j : ℕ) : Type 0 where
  pub lane : j < length preds
  pub few : length preds ≤ toks_per_row
  pub tokens : alphabet ≤ 256
  pub pred : get_or preds j 0 < toks_per_row
  pub room : get_or preds j 0 * alphabet + alphabet ≤ length node
  pub small : get_or preds j 0 * alphabet + alphabet ≤ toks_per_row * alphabet
  pub at : window_start node alphabet preds j ≤ toks_per_row * alphabet

here : (node : List ℕ) (alphabet : ℕ) (preds : List ℕ) (j : ℕ) → Windowable node alphabet preds → j < length preds → Here node preds alphabet j
here node alphabet preds j p l =
    let pred = p.pred j l in
    let end = part_end (get_or preds j 0) toks_per_row alphabet pred in
    record {
      lane = l;
      few = p.few;
      tokens = p.tokens;
      pred = pred;
      room = omega (arith, end, p.room);
      small = end;
      at = packed-low node alphabet preds j j (omega arith) (omega (arith, p.few));
    }

-- the window that a turn finds
abbrev own : After-window_of-first → Window
own c = record { first = c.window_of-first.result.0; end = c.window_of-first.result.1 }

found : (c : After-window_of-first) → own c ≡ window_at c.args.hist.now c.args.alphabet c.args.preds.now c.loop-pred.pred-index
found c = windows-same (own c) _ c.window_of-first.ensures.first c.window_of-first.ensures.end ∙ part_window _ _ _ (here c.args.hist.now c.args.alphabet c.args.preds.now c.loop-pred.pred-index c.requires c.loop-pred-test.true).room

pub loop-pred-init : goal.loop-pred-init
loop-pred-init c = (c.new-lanes.ensures, sym (start_none _ _ _))

pub overflow_sub-width : goal.overflow_sub-width
overflow_sub-width c =
    omega (arith, window_bounds c.args.hist.now c.args.alphabet c.args.preds.now c.loop-pred.pred-index (own (goal.at.overflow_sub-width c).After-window_of-first) (found (goal.at.overflow_sub-width c).After-window_of-first))

pub push-requires : goal.push-requires
push-requires c = let long = packed-length c.args.hist.now c.args.alphabet c.args.preds.now c.loop-pred.pred-index in
    (omega arith, omega (arith, ap length c.loop-pred.invariant.0, long, c.requires.few, c.loop-pred-test.true))

pub overflow_add-stride : goal.overflow_add-stride
overflow_add-stride c =
    omega (arith, window_bounds c.args.hist.now c.args.alphabet c.args.preds.now c.loop-pred.pred-index (own (goal.at.overflow_add-stride c).After-window_of-first) (found (goal.at.overflow_add-stride c).After-window_of-first), c.loop-pred.invariant.1, here c.args.hist.now c.args.alphabet c.args.preds.now c.loop-pred.pred-index c.requires c.loop-pred-test.true)

pub loop-pred-preserved : goal.loop-pred-preserved
loop-pred-preserved c =
    let a = c.args in
    let j = c.loop-pred.pred-index in
    let w = own (goal.at.loop-pred-preserved c).After-window_of-first in
    let inv = c.loop-pred.invariant in
    let at = found (goal.at.loop-pred-preserved c).After-window_of-first in
    let given : ℕ → Lane = λ off. record { pred = get_or a.preds.now j 0; first = w.first; width = w.end - w.first; off = off } in
    let lane = ap given inv.1 ∙ lane-packed a.hist.now a.alphabet a.preds.now j w at in (
      c.push.ensures.items ∙ ap (λ (l : List Lane). l ++ given c.loop-pred.stride ∷ []) inv.0 ∙ ap (λ (l : Lane). packed_lanes a.hist.now a.alphabet a.preds.now j ++ l ∷ []) lane
          ∙ sym (packed_more a.hist.now a.alphabet a.preds.now j),
      ap (λ (n : ℕ). n + (w.end - w.first)) inv.1 ∙ ap (λ (x : Window). window_start a.hist.now a.alphabet a.preds.now j + (x.end - x.first)) at
          ∙ sym (start_more a.hist.now a.alphabet a.preds.now j),
    )

pub returns-clause-windows : goal.returns-clause-windows
returns-clause-windows c =
    let inv = c.loop-pred.invariant in
    let all : c.loop-pred.pred-index ≡ length c.args.preds.now = omega (arith, c.loop-pred-test.false) in
    rw (inv.0, all) (windows-set _ _ _ c.loop-pred.stride (rw all at inv.1))

pub returns-clause-preds : goal.returns-clause-preds
returns-clause-preds c =
    let inv = c.loop-pred.invariant in
    let all : c.loop-pred.pred-index ≡ length c.args.preds.now = omega (arith, c.loop-pred-test.false) in
    rw (inv.0, all) (packed-preds _ _ _)
