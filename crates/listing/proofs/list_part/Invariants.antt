-- `listing::list_part` meets its contract. The invariant: what is written is the lines of the residuals passed, and the others are left. Assumes nothing.
use mathlib.Core.Path.{◌≡◌}
use lib.ListN.{length}
use Rattle.folds.proofs.Chunks.{left_from}
use Rattle.listing.proofs.Lines.{Part}
use Rattle.listing.proofs.list_part.Given as goal

abbrev pub invariant-loop-bytes : goal.invariant-loop-bytes
invariant-loop-bytes l = let i = length l.yielded in
    (l.bytes-iterator.size ≡ 4) × (l.bytes-iterator.rest.now ≡ left_from 4 l.input l.taken i) × Part l.input l.initial.out l.taken i l.out l.at
