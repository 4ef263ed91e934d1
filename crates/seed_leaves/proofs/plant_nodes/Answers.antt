-- `seed_leaves::plant_nodes` meets its contract: node after node is planted. Assumes nothing.
use mathlib.Core.Path.{refl}
use native.Mathlib.Omega.{arith}
use Rattle.std.proofs.Common.{rules}
use lib.Ieee.{of_bits}
use Rattle.layout.proofs.Queue.{same-itself}
use Rattle.seed_leaves.proofs.Walking.{node_fits, walked-none, walked-more, walked-all}
use Rattle.seed_leaves.proofs.plant_nodes.Goals as goal

pub loop-init : goal.loop-init
unfolding of_bits
loop-init c = (search rules, walked-none _ refl (same-itself _) refl)

pub plant_node-tree-requires : goal.plant_node-tree-requires
plant_node-tree-requires c =
    let walked = c.loop.invariant.1 in
    node_fits c.requires.plants (omega (arith, walked.passed, c.loop-test.true)) (walked.planted c.requires.given c.requires.plants)

pub loop-preserved : goal.loop-preserved
loop-preserved c = (search rules, walked-more c.loop.invariant.1 c.loop-test.true c.plant_node-tree.ensures.planted)

pub returns-clause-planted : goal.returns-clause-planted
returns-clause-planted c = walked-all c.loop.invariant.1 (omega (arith, c.loop.auto.counter-end, c.loop-test.false))
