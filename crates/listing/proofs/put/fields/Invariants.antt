-- `listing::put::fields` meets its contract. The invariant: what is written is the fields of the numbers passed. Assumes nothing.
use lib.ListN.{take}
use Rattle.listing.specs.Text.{joined, Wrote}
use Rattle.listing.specs.Listing.{field}
use Rattle.listing.proofs.put.fields.Given as goal

abbrev pub invariant-loop-n : goal.invariant-loop-n
invariant-loop-n l = Wrote l.initial.out l.at (joined field (take l.n-index l.numbers)) l.out l.end
