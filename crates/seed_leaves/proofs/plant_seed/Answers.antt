-- `seed_leaves::plant_seed` meets its contract: the rows ordered by leaf, and then the nodes planted. Assumes nothing.
use Rattle.rows.specs.Flat.{held_in}
use Rattle.rows.specs.Lent.{flat_in}
use Rattle.seed_leaves.proofs.Starting.{orderable, seed-fits, sowable, plants, seeded, seeded-zeros}
use Rattle.seed_leaves.proofs.plant_seed.Goals as goal

pub leaves_of-leaves-requires : goal.leaves_of-leaves-requires
leaves_of-leaves-requires c = (seed-fits c.requires).1

pub order_by_leaf-requires : goal.order_by_leaf-requires
order_by_leaf-requires c = orderable c.requires

pub plant_nodes-requires : goal.plant_nodes-requires
plant_nodes-requires c = sowable c.requires c.order_by_leaf.ensures.zeros c.order_by_leaf.ensures.rows c.leaves_of-leaves.ensures

pub returns-clause-planted : goal.returns-clause-planted
returns-clause-planted c =
    let ordered = c.order_by_leaf.ensures in
    let told = c.leaves_of-leaves.ensures in
    seeded c.requires ordered.zeros ordered.rows told
    (c.plant_nodes.ensures.planted (held_in (flat_in c.args.lists.now.rows.now)) (plants c.requires ordered.zeros ordered.rows told))

pub returns-clause-zeros : goal.returns-clause-zeros
returns-clause-zeros c =
    let ordered = c.order_by_leaf.ensures in
    let told = c.leaves_of-leaves.ensures in
    seeded-zeros c.requires ordered.zeros ordered.rows told
    (c.plant_nodes.ensures.planted (held_in (flat_in c.args.lists.now.rows.now)) (plants c.requires ordered.zeros ordered.rows told))
