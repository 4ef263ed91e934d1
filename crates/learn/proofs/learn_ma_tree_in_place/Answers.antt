-- `learn::learn_ma_tree_in_place` meets its contract: flat bits of the rows as first given, and then the finished tree. Assumes nothing.
use mathlib.Core.Path.{◌∙◌}
use Rattle.layout.specs.Lent.{lists_in}
use Rattle.queue.specs.Lent.{queue_in}
use Rattle.rows.specs.Lent.{flat_in}
use Rattle.lent.specs.Lists.{lists_now}
use Rattle.finish.proofs.Made.{made-lists}
use Rattle.from_root.specs.Result.{result_in}
use Rattle.learn.proofs.learn_ma_tree_in_place.Goals as goal

pub returns-clause-lists : goal.returns-clause-lists
returns-clause-lists c =
    let given = c.args in
    let end = c.grow_from_root in
    made-lists (lists_now given.lists.now) (result_in given.job (flat_in given.lists.now.rows.now)) (flat_in end.new.lists.rows.now)
    (lists_in end.new.lists.at.now) (queue_in end.new.lists.queue.now) end.new.lists.counts.now end.result c.requires.plantable.fitting.shaped end.ensures.finished end.ensures.queue
    (end.ensures.zeros ∙ c.flat_bits-flat_bits.ensures.zeros ∙ c.fill.ensures.after (λ y e. e))
