-- `entropy::pack_signed` meets its contract. Assumes nothing.
use Rattle.std.proofs.Common.{refl}
use Rattle.entropy.proofs.Words.{packed_natural, packed-negative}
use Rattle.entropy.proofs.pack_signed.Goals as goal

pub returns-then-value-lt0 : goal.returns-then-value-lt0
returns-then-value-lt0 c = packed-negative c.args.value c.ranges.value c.pattern-bits.result _ c.pattern-bits.ensures refl c.if-value-lt0.true

pub returns-else-value-lt0 : goal.returns-else-value-lt0
returns-else-value-lt0 c = packed_natural c.args.value c.ranges.value c.pattern-bits.result _ c.pattern-bits.ensures refl c.if-value-lt0.false
