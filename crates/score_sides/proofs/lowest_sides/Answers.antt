-- `score_sides::lowest_sides` meets its contract: the lowest of the lanes passed. Assumes nothing.
use borrow.Author.Rules.{rules}
use mathlib.Core.Path.{◌≡◌, sym, ap, ◌∙◌}
use mathlib.Core.Logic.{inl, inr}
use native.Mathlib.Omega.{arith}
use Prim.Native.Nat.{ℕ}
use lib.ListN.{length}
use lib.Ieee.{of_bits}
use Rattle.score_windows.specs.Windows.{no_lane}
use Rattle.score_sides.specs.declared.Sides.{Sides}
use Rattle.score_sides.specs.Sides.{lower_sides}
use Rattle.score_sides.specs.Lowest.{lane_costs, costs_at, lowest_to}
use Rattle.score_sides.proofs.Lowest.{lowest_to-none, lowest_to-more, next, yielded-more, none-left, lane-ready}
use Rattle.score_sides.proofs.lowest_sides.Goals as goal

pub loop-lane-init : goal.loop-lane-init
unfolding of_bits
loop-lane-init c = ((tt, tt), tt, omega arith, search rules, search rules, sym (lowest_to-none _))

pub lane_costs-requires : goal.lane_costs-requires
lane_costs-requires c =
    let steps = c.in-Some.ensures.steps in
    let inv = c.loop-lane.invariant in
    lane-ready _ _ _ _ _ _ _ c.requires (sym inv.3 ∙ steps.0) (sym inv.4 ∙ steps.1)

pub loop-lane-preserved : goal.loop-lane-preserved
loop-lane-preserved c =
    let steps = c.in-Some.ensures.steps in
    let inv = c.loop-lane.invariant in
    let n = length c.loop-lane.yielded in
    let lane = next no_lane c.args.counts.windows.lanes.now n c.in-Some.field-0-0.now _ (sym inv.3 ∙ steps.0) in
    let extra = next 0 c.args.counts.extras.now n c.in-Some.field-0-1.now _ (sym inv.4 ∙ steps.1) in
    let costs : ℕ → Sides = costs_at c.args.bin.now c.args.counts.node.hist.now c.args.counts.node.alphabet c.args.counts.windows.lanes.now c.args.side_logs c.args.counts.logs.now in
    let own : c.lane_costs.result ≡ costs n = c.lane_costs.ensures ∙ ap (lane_costs c.args.bin.now c.args.counts.node.hist.now c.args.counts.node.alphabet c.args.side_logs c.args.counts.logs.now) (sym lane.item) in
    rw (yielded-more c.loop-lane.yielded (c.in-Some.field-0-0, c.in-Some.field-0-1)) (
      (tt, tt),
      tt,
      omega (arith, lane.there),
      lane.left,
      extra.left,
      c.lower_sides-best.ensures ∙ ap (λ (b : Sides). lower_sides b c.lane_costs.result) inv.5 ∙ ap (lower_sides (lowest_to costs n)) own ∙ sym (lowest_to-more costs n),
    )

pub returns : goal.returns
returns c =
    let inv = c.loop-lane.invariant in
    let n = length c.loop-lane.yielded in
    let all : n ≡ length c.args.counts.windows.lanes.now =
    elim c.in-None.ensures.steps [
      | inl s ↦ omega (arith, inv.2, none-left c.args.counts.windows.lanes.now n (ap length (sym inv.3) ∙ s.1.0))
      | inr s ↦ omega (arith, inv.2, c.requires.extras_room, none-left c.args.counts.extras.now n (ap length (sym inv.4) ∙ s.1.0))
    ] in
    rw all at inv.5
