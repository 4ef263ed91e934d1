-- `listing::put::line` meets its contract. Assumes nothing.
use mathlib.Core.Path.{◌≡◌}
use mathlib.Core.List.{List, [], ◌∷◌, ◌++◌}
use Prim.Native.Nat.{ℕ}
use mir.Syntax.{w32}
use mir.Val.{to_z, of_z}
use mir.ValLaws.{to_z-of_z}
use Rattle.listing.specs.Text.{signed_decimal, joined, Room}
use Rattle.listing.specs.Listing.{field, line_of}
use Rattle.listing.proofs.Writing.{room-left, room-more, wrote-more}
use Rattle.listing.proofs.put.line.Goals as goal
use Rattle.listing.proofs.put.line.Goals.{After-uint_encode-coded}

-- the line's pieces, as the code has them
abbrev sign : After-uint_encode-coded → List ℕ
sign c = signed_decimal (to_z w32 (of_z w32 c.args.z))

abbrev rest : After-uint_encode-coded → List ℕ
rest c = let e = c.uint_encode-coded.result in joined field (c.pack_signed-packed.result ∷ e.token ∷ e.nbits ∷ e.bits ∷ [])

pieces : (c : After-uint_encode-coded) → line_of c.args.z ≡ sign c ++ rest c ++ (10 ∷ [])
unfolding line_of
pieces c =
    rw (c.uint_encode-coded.ensures, c.pack_signed-packed.ensures, to_z-of_z w32 c.args.z c.ranges.z)

room : (c : After-uint_encode-coded) → Room c.args.out.now c.args.at (sign c ++ rest c ++ (10 ∷ []))
room c = rw (pieces c) at c.requires

room-rest : (c : After-uint_encode-coded) → Room c.args.out.now c.args.at (sign c ++ rest c)
room-rest c = room-left c.args.out.now c.args.at (sign c ++ rest c) (10 ∷ []) (room c)

pub signed_decimal-first-requires : goal.signed_decimal-first-requires
signed_decimal-first-requires c =
    let a = (goal.at.signed_decimal-first-requires c).After-uint_encode-coded in
    room-left c.args.out.now c.args.at (sign a) (rest a) (room-rest a)

pub fields-end-requires : goal.fields-end-requires
fields-end-requires c =
    let a = (goal.at.fields-end-requires c).After-uint_encode-coded in
    room-more c.signed_decimal-first.ensures (rest a) (room-rest a)

pub byte-requires : goal.byte-requires
byte-requires c =
    let a = (goal.at.byte-requires c).After-uint_encode-coded in
    room-more (wrote-more c.signed_decimal-first.ensures c.fields-end.ensures (room-rest a)) (10 ∷ []) (room a)

pub returns : goal.returns
returns c =
    let a = (goal.at.returns c).After-uint_encode-coded in
    rw (pieces a)
    (wrote-more (wrote-more c.signed_decimal-first.ensures c.fields-end.ensures (room-rest a)) c.byte.ensures (room a))
