-- `score::score_property` meets its contract: the bins' part of the room is lent, and comes back as it was. Assumes nothing.
use mathlib.Core.Path.{refl, sym, ap, ◌∙◌}
use mathlib.Core.List.{List, ◌++◌}
use Prim.Native.Nat.{ℕ, ◌+◌, ◌*◌}
use native.Mathlib.Omega.{arith}
use lib.ListN.{length, drop, take-append-drop}
use lib.Seq.{length-take-le}
use Rattle.score.proofs.Property.{bins_fit, zeros-front}
use Rattle.score.proofs.score_property.Goals as goal

pub overflow_mul-bins : goal.overflow_mul-bins
overflow_mul-bins c = omega (arith, bins_fit _ _ _ _ _ _ _ _ _ _ c.requires.scorable _ c.requires.packed c.args.room.now c.requires.spare)

pub slice_bounds-score_in-end : goal.slice_bounds-score_in-end
slice_bounds-score_in-end c = bins_fit _ _ _ _ _ _ _ _ _ _ c.requires.scorable _ c.requires.packed c.args.room.now c.requires.spare

pub slice_bounds-score_in-end-2 : goal.slice_bounds-score_in-end-2
slice_bounds-score_in-end-2 c = sym (length-take-le ((length c.args.plan.cands.now + 1) * c.args.windows.stride) c.args.room.now (bins_fit _ _ _ _ _ _ _ _ _ _ c.requires.scorable _ c.requires.packed c.args.room.now c.requires.spare))

pub score_in-requires : goal.score_in-requires
score_in-requires c = record { scorable = c.requires.scorable; total_value = refl; packed = c.requires.packed; room_value = zeros-front c.args.room.now ((length c.args.plan.cands.now + 1) * c.args.windows.stride) c.requires.spare.zeros (bins_fit _ _ _ _ _ _ _ _ _ _ c.requires.scorable _ c.requires.packed c.args.room.now c.requires.spare) }

pub returns : goal.returns
returns c = record { answer = c.score_in.ensures.answer; zeros = ap (λ (l : List ℕ). l ++ drop ((length c.args.plan.cands.now + 1) * c.args.windows.stride) c.args.room.now) c.score_in.ensures.zeros ∙ take-append-drop ((length c.args.plan.cands.now + 1) * c.args.windows.stride) c.args.room.now }
