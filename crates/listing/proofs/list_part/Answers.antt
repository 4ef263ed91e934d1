-- `listing::list_part` meets its contract. The invariant: what is written is the lines of the residuals passed, and the others are left. Assumes nothing.
use mathlib.Core.Path.{◌≡◌, ◌∙◌}
use mathlib.Core.List.{◌++◌, [], ◌∷◌}
use Prim.Native.Nat.{◌+◌, ◌*◌, ◌/◌, ◌^◌, ◌≤◌, ◌<◌}
use native.Mathlib.Nat.{min-le_left, min-le_right}
use native.Mathlib.Omega.{arith}
use lib.ListN.{length, length-append}
use lib.Signed.{mag}
use mir.Syntax.{w32}
use mir.Val.{to_z, of_z}
use mir.ValLaws.{to_z-of_z}
use Rattle.folds.proofs.Chunks.{NextRow, next_row, no_row}
use Rattle.listing.specs.Listing.{residual_at, part_count, part_text, part_of}
use Rattle.listing.proofs.Writing.{from_front}
use Rattle.listing.proofs.Lines.{part_none, part_room, part-more, part_end, part-fits, residual-in}
use Rattle.listing.proofs.list_part.Goals as goal
use Rattle.listing.proofs.list_part.Goals.{After-min-taken, After-residual_of}

-- there are as many residuals, and they have room
all : (c : After-min-taken) → c.min-taken.result ≤ length c.args.input.now / 4
all c = rw c.min-taken.ensures (min-le_left _ _)

room : (c : After-min-taken) → c.min-taken.result ≤ length c.args.out.now / 40
room c = rw c.min-taken.ensures (min-le_right _ _)

there : (c : After-min-taken) → c.min-taken.result * 4 ≤ length c.args.input.now
there c = omega (arith, all c)

-- the bytes of this turn
turn : (c : After-residual_of) → NextRow 4 c.args.input.now c.min-taken.result (length c.loop-bytes.yielded) c.in-Some.bytes.now c.next.new.self.rest.now
turn c = let inv = c.loop-bytes.invariant in
    let steps = c.in-Some.ensures.steps in
    next_row _ _ _ (omega arith) (there (goal.at.After-residual_of c).After-min-taken) _ _ _ _ inv.2.reached inv.1 steps.1.0 (steps.1.1 ∙ inv.0)

-- the residual that was read is the one at its place
is : (c : After-residual_of) → to_z w32 (of_z w32 c.residual_of.result) ≡ residual_at c.args.input.now (4 * length c.loop-bytes.yielded)
is c = to_z-of_z w32 c.residual_of.result (record { sfits = c.residual_of.type_inv }) ∙ c.residual_of.ensures ∙ residual-in _ _ _ (λ p l. (turn c).cell p 0 l)

fits : (c : After-residual_of) → mag (to_z w32 (of_z w32 c.residual_of.result)) < 2 ^ 31
fits c = rw (to_z-of_z w32 c.residual_of.result (record { sfits = c.residual_of.type_inv })) c.residual_of.type_inv

pub loop-bytes-init : goal.loop-bytes-init
loop-bytes-init c = let given = c.into_iter-bytes-iterator.ensures.into_iter_gives in
    let chunks = c.chunks_exact-bytes-items.ensures in
    (rw given chunks.size, rw given chunks.rest, part_none c.args.input.now c.args.out.now c.min-taken.result)

pub line-at-requires : goal.line-at-requires
line-at-requires c =
    let s = (goal.at.line-at-requires c).After-min-taken in
    let a = (goal.at.line-at-requires c).After-residual_of in
    part_room c.loop-bytes.invariant.2 (all s) (room s) (turn a).below (to_z w32 (of_z w32 c.residual_of.result)) (fits a) (is a)

pub loop-bytes-preserved : goal.loop-bytes-preserved
loop-bytes-preserved c =
    let s = (goal.at.loop-bytes-preserved c).After-min-taken in
    let a = (goal.at.loop-bytes-preserved c).After-residual_of in
    let inv = c.loop-bytes.invariant in
    let next : length (c.loop-bytes.yielded ++ c.in-Some.bytes ∷ []) ≡ length c.loop-bytes.yielded + 1 = length-append c.loop-bytes.yielded (c.in-Some.bytes ∷ []) in
    rw next (
      c.in-Some.ensures.steps.0 ∙ inv.0,
      (turn a).more,
      part-more inv.2 (all s) (room s) (turn a).below (to_z w32 (of_z w32 c.residual_of.result)) (fits a) (is a) c.line-at.ensures,
    )

pub returns : goal.returns
unfolding part_of part_text part_count
returns c =
    let s = (goal.at.returns c).After-min-taken in
    let inv = c.loop-bytes.invariant in
    let part = inv.2 in
    let last = no_row 4 c.args.input.now c.min-taken.result (omega arith) (there s) _ _ part.reached inv.1 (omega (arith, c.in-None.ensures.steps)) in
    let end = from_front (part_end part (all s) (room s) (omega (arith, last))) (part-fits part (all s) (room s) (omega (arith, last))) in
    record { answer = rw (← c.min-taken.ensures, end.0); text = rw (← c.min-taken.ensures) end.1.0; fits = end.1.1 }
