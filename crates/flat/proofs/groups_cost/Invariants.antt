-- `flat::groups_cost` meets its contract: the groups passed are added. Assumes nothing.
use mathlib.Core.Path.{◌≡◌}
use Rattle.flat.specs.Flat.{groups_bits}
use Rattle.flat.proofs.groups_cost.Given as goal

abbrev pub invariant-loop-group : goal.invariant-loop-group
invariant-loop-group l = l.total ≡ groups_bits l.hist l.sizes l.alphabet l.allowed.weighted l.allowed.preds l.logs l.group
