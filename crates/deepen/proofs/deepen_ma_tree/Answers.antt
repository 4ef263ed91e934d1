-- `deepen::deepen_ma_tree` meets its contract: flat bits of the rows as first given, and then the finished tree. Assumes nothing.
use mathlib.Core.Path.{◌∙◌}
use Rattle.finish.proofs.Made.{made-lists}
use Rattle.deepen.proofs.deepen_ma_tree.Goals as goal

pub returns-clause-lists : goal.returns-clause-lists
returns-clause-lists c =
    let end = c.grow_from_seed.ensures in
    made-lists _ _ _ _ _ _ c.grow_from_seed.result c.requires.seedable.fitting.shaped end.finished end.queue
    (end.zeros ∙ c.flat_bits-flat_bits.ensures.zeros ∙ c.fill.ensures.after (λ y e. e))
