-- `seed_leaves::plant_leaf` meets its contract: the leaf as it was made, in the caller's lists. Assumes nothing.
use mathlib.Core.Path.{refl, ap}
use borrow.Author.Rules.{rules}
use Rattle.std.specs.Float.{binary64}
use Rattle.std.specs.Float.Ieee.{add}
use Rattle.leaf.proofs.Making.{made-back}
use Rattle.seed_leaves.proofs.plant_leaf.Goals as goal

pub returns-clause-planted : goal.returns-clause-planted
returns-clause-planted c =
    let leaf = c.make_leaf-leaf in
    let queue = c.enqueue.ensures in
    record {
      leaf = leaf.result;
      made = made-back leaf.ensures.lent (search rules) leaf.ensures.answer;
      nodes = c.put_leaf.ensures.lists;
      queued = queue.queue;
      counted = refl;
      many = queue.waiting;
      queue = queue.lengths;
      summed = ap (add binary64 c.args.tree.bits) c.from.ensures;
      zeros = leaf.ensures.zeros;
    }
