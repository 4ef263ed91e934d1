-- `listing::put::byte` meets its contract. Assumes nothing.
use Rattle.listing.proofs.Writing.{wrote_one}
use Rattle.listing.proofs.put.byte.Goals as goal

pub returns : goal.returns
returns c = wrote_one c.args.out.now c.args.at c.args.b c.requires
