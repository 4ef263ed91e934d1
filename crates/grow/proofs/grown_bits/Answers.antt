-- `grow::grown_bits` meets its contract. Assumes nothing.
use mathlib.Core.Path.{ap}
use lib.Ieee.{add, binary64}
use Rattle.model.specs.Grow.{grown_bits}
use Rattle.grow.proofs.grown_bits.Goals as goal

pub returns : goal.returns
unfolding grown_bits
returns c = ap (add binary64 c.args.bits) c.from.ensures
