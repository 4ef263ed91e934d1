-- `score::score_in` meets its contract: its room after each call, and then the law of the score from bins. Assumes nothing.
use mathlib.Core.Path.{◌≡◌, ap, ◌∙◌}
use mathlib.Core.List.{List}
use Prim.Native.Nat.{ℕ, ◌+◌, ◌*◌}
use native.Mathlib.Omega.{arith}
use lib.ListN.{length, replicate, length-replicate}
use Rattle.score.specs.Scored.{score_is}
use Rattle.score.proofs.Property.{rows-there, all_lanes, c-low, extras-fit, sums_fit, ready, scored, cleared}
use Rattle.score.proofs.score_in.Goals as goal

room-long : (room : List ℕ) (n : ℕ) → room ≡ replicate n 0 → length room ≡ n
room-long room n e = ap length e ∙ length-replicate {A = ℕ} n 0

pub scan_split_plan-requires : goal.scan_split_plan-requires
scan_split_plan-requires c = let h = c.requires.scorable in
    let there = rows-there _ _ _ _ _ _ _ _ _ _ h _ c.requires.packed in
    let lanes = all_lanes _ _ _ _ _ _ _ _ _ _ h _ c.requires.packed in
    let low = c-low _ _ _ _ _ _ _ _ _ _ h _ c.requires.packed _ c.requires.room_value in
    record { rows_there = (h.span.order, there); prop_lt_props_per_row = (h.property, h.few_cands, omega (arith, room-long c.args.room.now ((length c.args.plan.cands.now + 1) * c.args.windows.stride) c.requires.room_value)); lanes = lanes; low = low }

pub accumulate-requires : goal.accumulate-requires
accumulate-requires c =
    let fit = sums_fit _ _ _ _ _ _ _ _ _ _ c.requires.scorable _ c.requires.packed _ c.requires.room_value _ c.scan_split_plan.ensures in
    record { there = fit.0; sums_low = fit.1 }

pub extras_of-extras-requires : goal.extras_of-extras-requires
extras_of-extras-requires c = extras-fit _ _ _ _ _ _ _ _ _ _ c.requires.scorable _ c.requires.packed

pub score_split_plan-score-requires : goal.score_split_plan-score-requires
score_split_plan-score-requires c = rw c.requires.total_value (ready _ _ _ _ _ _ _ _ _ _ c.requires.scorable _ c.requires.packed _ c.requires.room_value _ c.scan_split_plan.ensures _ c.accumulate.ensures _ (c.deref.ensures.0 ∙ c.extras_of-extras.ensures))

pub returns : goal.returns
returns c = let counted = c.scan_split_plan.ensures in
    let left = c.accumulate.ensures in
    record { answer = scored _ _ _ _ _ _ _ _ _ _ c.requires.scorable _ c.requires.packed _ c.requires.room_value _ counted _ left (score_is c.score_split_plan-score.result) (rw c.requires.total_value at c.score_split_plan-score.ensures); zeros = cleared _ _ _ _ _ _ _ _ _ _ c.requires.scorable _ c.requires.packed _ c.requires.room_value _ counted _ left _ (c.fill.ensures.after (λ y e. e)) }
