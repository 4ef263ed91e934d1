-- `from_root::grow_from_root` meets its contract: the root, and then what growing and finishing make of it. Assumes nothing.
use Prim.Native.Nat.{◌-◌}
use Rattle.model.specs.Grow.{steps}
use Rattle.model.specs.Learn.{root_state, learned}
use Rattle.model.specs.Kept.{no_seeds}
use Rattle.layout.specs.Lent.{lists_in}
use Rattle.rows.specs.Flat.{held_in}
use Rattle.rows.specs.Lent.{flat_in}
use Rattle.lent.specs.Grows.{job_in}
use Rattle.finish.proofs.Finishing.{flat-is}
use Rattle.from_root.proofs.Planting.{finished_there}
use Rattle.from_root.proofs.grow_from_root.Goals as goal

pub returns-clause-finished : goal.returns-clause-finished
unfolding learned
returns-clause-finished c =
    let job = c.args.job in
    let x = flat_in c.args.lists.now.rows.now in
    let root = c.plant_root-root in
    let st = root_state (job_in job x) (held_in x) in
    flat-is (job_in job x) (steps (job_in job x) (job.settings.max_leaves - 1) st) c.requires.flat_bits_value
    (finished_there job (job.settings.max_leaves - 1) st c.args.flat_bits root.ensures.lengths.0
    (c.grow_and_finish.ensures.finished (lists_in c.args.lists.now.at.now) st no_seeds (held_in x) root.ensures.planted))
