-- `listing::put::fields` meets its contract. The invariant: what is written is the fields of the numbers passed. Assumes nothing.
use lib.ListN.{get_or}
use Rattle.listing.specs.Text.{joined}
use Rattle.listing.specs.Listing.{field}
use Rattle.listing.proofs.Writing.{wrote_none, room-more, turn, room_next}
use Rattle.listing.proofs.put.fields.Goals as goal

pub loop-n-init : goal.loop-n-init
unfolding joined
loop-n-init c = wrote_none c.args.out.now c.args.at

pub field-end-requires : goal.field-end-requires
field-end-requires c =
    room-more c.loop-n.invariant (field (get_or c.args.numbers.now c.loop-n.n-index 0)) (room_next field c.args.out.now c.args.at c.args.numbers.now c.loop-n.n-index 0 c.loop-n-test.true c.requires)

pub loop-n-preserved : goal.loop-n-preserved
loop-n-preserved c =
    turn field c.args.numbers.now c.loop-n.n-index 0 c.loop-n-test.true c.loop-n.invariant c.field-end.ensures (room_next field c.args.out.now c.args.at c.args.numbers.now c.loop-n.n-index 0 c.loop-n-test.true c.requires)
