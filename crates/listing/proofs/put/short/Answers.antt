-- `listing::put::short` meets its contract. Assumes nothing.
use mathlib.Core.List.{List, [], ◌∷◌, ◌++◌}
use Prim.Native.Nat.{ℕ, ◌<◌}
use Rattle.listing.specs.Text.{codes, decimal, Room}
use Rattle.listing.specs.Listing.{short_of}
use Rattle.listing.proofs.Writing.{room-left, room-more, wrote-more}
use Rattle.listing.proofs.Lines.{short-is}
use Rattle.listing.proofs.put.short.Goals as goal

module _ (out : List ℕ) (at n : ℕ) (h : (0 < n) × Room out at (short_of n)) where
  room : Room out at (codes "short " ++ decimal n ++ (10 ∷ []))
  room = rw (short-is n h.0) at h.1

  room-number : Room out at (codes "short " ++ decimal n)
  room-number = room-left out at (codes "short " ++ decimal n) (10 ∷ []) room

pub text-number-requires : goal.text-number-requires
unfolding codes
text-number-requires c = room-left c.args.out.now c.args.at (codes "short ") (decimal c.args.n) (room-number c.args.out.now c.args.at c.args.n c.requires)

pub decimal-end-requires : goal.decimal-end-requires
unfolding codes
decimal-end-requires c = room-more c.text-number.ensures (decimal c.args.n) (room-number c.args.out.now c.args.at c.args.n c.requires)

pub byte-requires : goal.byte-requires
unfolding codes
byte-requires c =
    room-more (wrote-more c.text-number.ensures c.decimal-end.ensures (room-number c.args.out.now c.args.at c.args.n c.requires)) (10 ∷ [])
    (room c.args.out.now c.args.at c.args.n c.requires)

pub returns : goal.returns
unfolding codes
returns c =
    rw (short-is c.args.n c.requires.0)
    (wrote-more (wrote-more c.text-number.ensures c.decimal-end.ensures (room-number c.args.out.now c.args.at c.args.n c.requires)) c.byte.ensures
    (room c.args.out.now c.args.at c.args.n c.requires))
