-- `lent::flat_bits` meets its contract. Assumes nothing.
use Rattle.lent.proofs.Flatly.{flat-asked, counts-back}
use Rattle.lent.proofs.flat_bits.Goals as goal

pub flat_cost-requires : goal.flat_cost-requires
flat_cost-requires c = rw c.allowed-allowed.ensures (flat-asked c.requires.fitting c.args.rows.res.now)

pub returns-clause-zeros : goal.returns-clause-zeros
returns-clause-zeros c = counts-back c.requires.fitting c.flat_cost.new.hist c.flat_cost.ensures.zeros
