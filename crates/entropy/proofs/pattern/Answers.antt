-- `entropy::pattern` meets its contract. Assumes nothing.
use Rattle.entropy.proofs.Words.{pattern-is}
use Rattle.entropy.proofs.pattern.Goals as goal

pub returns : goal.returns
returns c = rw c.cast_unsigned.ensures (pattern-is c.args.value c.ranges.value)
