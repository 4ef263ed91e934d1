-- `from_seed::grow_from_seed` meets its contract: the seed, and then what growing and finishing make of it. Assumes nothing.
use Rattle.model.specs.Deepen.{seed_state}
use Rattle.layout.specs.Lent.{lists_in}
use Rattle.rows.specs.Flat.{held_in}
use Rattle.rows.specs.Lent.{flat_in}
use Rattle.lent.specs.Grows.{job_in}
use Rattle.seed_rows.specs.Ordered.{seed_in}
use Rattle.seed_leaves.specs.Seeded.{splits_of}
use Rattle.from_seed.proofs.FromSeed.{seed-grows, seed-finished}
use Rattle.from_seed.proofs.grow_from_seed.Goals as goal

pub returns-clause-finished : goal.returns-clause-finished
returns-clause-finished c =
    let left = c.leaves_left-more.ensures in
    let x = flat_in c.args.lists.now.rows.now in
    let n = lists_in c.args.lists.now.at.now in
    let seed = seed_in c.args.count n in
    let sown = c.plant_seed-planted.ensures.planted in
    seed-finished sown left c.requires.flat_bits_value
    (c.grow_and_finish.ensures.finished n (seed_state (job_in c.args.job x) seed (held_in x)) (splits_of seed) (held_in x) (seed-grows sown left))
