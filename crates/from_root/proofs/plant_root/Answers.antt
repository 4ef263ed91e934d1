-- `from_root::plant_root` meets its contract: one leaf over all rows. Assumes nothing.
use mathlib.Core.List.{[]}
use borrow.Author.Rules.{rules}
use Rattle.queue.specs.Lent.{queue_in}
use Rattle.leaf.proofs.Making.{made-back}
use Rattle.from_root.proofs.Planting.{none-queued, planted}
use Rattle.from_root.proofs.plant_root.Goals as goal

pub returns-clause-planted : goal.returns-clause-planted
returns-clause-planted c =
    let root = c.make_leaf-root in
    let queue = c.enqueue in
    let made = made-back root.ensures.lent (search rules) root.ensures.answer in
    rw c.put_leaf.ensures.lists
    (planted c.requires c.count.ensures made queue.new.self c.from.result queue.ensures.lengths
    (queue.ensures.queue [] (none-queued (queue_in c.args.lists.now.queue.now))) queue.ensures.waiting c.from.ensures root.new.counts root.ensures.zeros)
