-- `score_sides::window_entropies` meets its contract: each sum so far, with the counts that are left, is that side's whole sum. Assumes nothing.
use mathlib.Core.Path.{◌≡◌, sym, ◌∙◌}
use mathlib.Core.Logic.{inl, inr}
use native.Mathlib.Omega.{arith}
use lib.ListN.{length}
use Rattle.std.specs.Iterator.Adapters.{zip_first}
use Rattle.std.specs.Slice.Iter.{iter_rest}
use Rattle.score_sides.specs.Sides.{entropies_of}
use Rattle.score_sides.proofs.Sweeps.{counts-here, counts-left, rest-left, rest-length, entropy-left, entropy-done}
use Rattle.score_sides.proofs.window_entropies.Goals as goal

pub add_count-le-requires : goal.add_count-le-requires
add_count-le-requires c =
    let steps = c.in-Some.ensures.steps in
    omega (arith, counts-here steps.0 steps.1 c.loop-count.invariant.2)

pub add_count-gt-requires : goal.add_count-gt-requires
add_count-gt-requires c =
    let steps = c.in-Some.ensures.steps in
    omega (arith, counts-here steps.0 steps.1 c.loop-count.invariant.2)

pub loop-count-preserved : goal.loop-count-preserved
loop-count-preserved c =
    let steps = c.in-Some.ensures.steps in
    let inv = c.loop-count.invariant in (
      (tt, tt),
      tt,
      counts-left steps.0 steps.1 inv.2,
      entropy-left c.args.logs.now c.args.side_logs.le _ steps.0 c.add_count-le.ensures inv.3,
      entropy-left c.args.logs.now c.args.side_logs.gt _ (rest-left steps.0 steps.1 inv.2) c.add_count-gt.ensures inv.4,
    )

pub returns : goal.returns
unfolding entropies_of
returns c =
    let inv = c.loop-count.invariant in
    let it = c.loop-count.count-iterator in
    let none : length (iter_rest (zip_first it)) ≡ 0 =
    elim c.in-None.ensures.steps [ inl s ↦ s.1.0 | inr s ↦ sym inv.2.long ∙ s.1.0 ] in
    let le = entropy-done c.args.logs.now c.args.side_logs.le _ none inv.3 in
    let gt = entropy-done c.args.logs.now c.args.side_logs.gt _ (rest-length _ _ inv.2.long ∙ none) inv.4 in
    cc
