-- `flat::groups_cost` meets its contract: the groups passed are added. Assumes nothing.
use mathlib.Core.Path.{refl}
use lib.Ieee.{of_bits}
use Rattle.flat.specs.Flat.{groups_bits}
use Rattle.flat.proofs.Flat.{groups-turn}
use Rattle.flat.proofs.groups_cost.Goals as goal

pub loop-group-init : goal.loop-group-init
unfolding of_bits groups_bits
loop-group-init c = refl

pub loop-group-preserved : goal.loop-group-preserved
loop-group-preserved c = let a = c.args in
    groups-turn a.hist.now a.sizes.now a.alphabet a.allowed.weighted a.allowed.preds a.logs.now c.loop-group.group c.loop-group.total c.add_group-total.result c.loop-group.invariant c.add_group-total.ensures
