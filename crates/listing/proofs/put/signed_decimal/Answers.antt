-- `listing::put::signed_decimal` meets its contract. Assumes nothing.
use mathlib.Core.Path.{◌≡◌}
use mathlib.Core.List.{[], ◌∷◌, ◌++◌}
use Rattle.listing.specs.Text.{decimal, signed_decimal, Room}
use Rattle.listing.proofs.Writing.{room-left, room-more, wrote-more}
use Rattle.listing.proofs.Words.{text_natural, text_negative}
use Rattle.listing.proofs.put.signed_decimal.Goals as goal
use Rattle.listing.proofs.put.signed_decimal.Goals.{Then-z-lt0, Else-z-lt0}

natural : (c : Else-z-lt0) → signed_decimal c.args.z ≡ decimal c.unsigned_abs-size.result
natural c = rw c.unsigned_abs-size.ensures.value (text_natural c.args.z c.ranges.z c.if-z-lt0.false)

negative : (c : Then-z-lt0) → signed_decimal c.args.z ≡ (45 ∷ []) ++ decimal c.unsigned_abs-size.result
negative c = rw c.unsigned_abs-size.ensures.value (text_negative c.args.z c.ranges.z c.if-z-lt0.true)

room : (c : Then-z-lt0) → Room c.args.out.now c.args.at ((45 ∷ []) ++ decimal c.unsigned_abs-size.result)
room c = rw (negative c) at c.requires

pub byte-first-requires : goal.byte-first-requires
byte-first-requires c = room-left c.args.out.now c.args.at (45 ∷ []) (decimal c.unsigned_abs-size.result) (room (goal.at.byte-first-requires c).Then-z-lt0)

pub decimal-requires : goal.decimal-requires
decimal-requires c = room-more c.byte-first.ensures (decimal c.unsigned_abs-size.result) (room (goal.at.decimal-requires c).Then-z-lt0)

pub returns-then-z-lt0 : goal.returns-then-z-lt0
returns-then-z-lt0 c =
    let a = (goal.at.returns-then-z-lt0 c).Then-z-lt0 in
    rw (negative a) (wrote-more c.byte-first.ensures c.decimal.ensures (room a))

pub decimal-requires-2 : goal.decimal-requires-2
decimal-requires-2 c = rw (natural (goal.at.decimal-requires-2 c).Else-z-lt0) at c.requires

pub returns : goal.returns
returns c = rw (natural (goal.at.returns c).Else-z-lt0) c.decimal-2.ensures
