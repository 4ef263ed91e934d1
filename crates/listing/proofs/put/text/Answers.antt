-- `listing::put::text` meets its contract. Assumes nothing.
use Rattle.listing.proofs.Writing.{wrote_copy}
use Rattle.listing.proofs.put.text.Goals as goal

pub returns : goal.returns
returns c = wrote_copy c.args.out.now c.args.at c.args.s.now c.requires c.copy_from_slice.ensures.after
