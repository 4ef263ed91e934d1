-- `flat::flat_cost` meets its contract: the groups are counted, and their costs add up to the model's flat bits. Assumes nothing.
use mathlib.Core.Path.{◌∙◌}
use Rattle.flat.proofs.Flat.{groups_counted, flat-is}
use Rattle.flat.proofs.flat_cost.Goals as goal

pub groups_cost-total-requires : goal.groups_cost-total-requires
groups_cost-total-requires c = groups_counted _ _ _ _ _ _ _ _ c.requires c.count_groups.ensures

pub returns-clause-answer : goal.returns-clause-answer
returns-clause-answer c = λ t rs u. c.groups_cost-total.ensures ∙ flat-is _ _ _ _ _ _ _ _ c.requires c.count_groups.ensures t rs u
