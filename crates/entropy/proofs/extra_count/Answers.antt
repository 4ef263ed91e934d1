-- `entropy::extra_count` meets its contract. Assumes nothing.
use Rattle.std.proofs.Common.{le-ltb, lt-ltb}
use Rattle.model.specs.Token.{extra_count}
use Rattle.entropy.proofs.extra_count.Goals as goal

pub returns-then-token-lt16 : goal.returns-then-token-lt16
unfolding extra_count
returns-then-token-lt16 c = rw (lt-ltb c.args.token 16 c.if-token-lt16.true)

pub returns-else-token-lt16 : goal.returns-else-token-lt16
unfolding extra_count
returns-else-token-lt16 c = rw (le-ltb c.args.token 16 c.if-token-lt16.false)
