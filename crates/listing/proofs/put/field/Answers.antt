-- `listing::put::field` meets its contract. Assumes nothing.
use mathlib.Core.List.{[], ◌∷◌}
use Rattle.listing.specs.Text.{decimal}
use Rattle.listing.specs.Listing.{field}
use Rattle.listing.proofs.Writing.{room-left, room-more, wrote-more}
use Rattle.listing.proofs.put.field.Goals as goal

pub byte-first-requires : goal.byte-first-requires
unfolding field
byte-first-requires c = room-left c.args.out.now c.args.at (32 ∷ []) (decimal c.args.n) c.requires

pub decimal-requires : goal.decimal-requires
unfolding field
decimal-requires c = room-more c.byte-first.ensures (decimal c.args.n) c.requires

pub returns : goal.returns
unfolding field
returns c = wrote-more c.byte-first.ensures c.decimal.ensures c.requires
