-- `entropy::unpack_signed` meets its contract. Assumes nothing.
use Rattle.entropy.proofs.Words.{unpacked_even, unpacked_odd}
use Rattle.entropy.proofs.unpack_signed.Goals as goal

pub returns-then-value-eq0 : goal.returns-then-value-eq0
returns-then-value-eq0 c = unpacked_even c.args.value c.ranges.value c.cast_signed-half.result c.cast_signed-half.ensures c.if-value-eq0.true

pub returns-else-value-eq0 : goal.returns-else-value-eq0
returns-else-value-eq0 c = unpacked_odd c.args.value c.ranges.value c.cast_signed-half.result c.cast_signed-half.ensures c.if-value-eq0.false
