-- `compact::gather` meets its contract: the entries passed are gathered. Assumes nothing.
use Rattle.layout.specs.Lent.{lists_in}
use Rattle.layout.specs.Tree.{node_lists}
use Rattle.compact.proofs.Moving.{gathered_none, gathered-more}
use Rattle.compact.proofs.gather.Goals as goal

pub loop-q-init : goal.loop-q-init
loop-q-init c = gathered_none _ _ _ c.args.new_order.order.now _

pub loop-q-preserved : goal.loop-q-preserved
loop-q-preserved c = let l = c.loop-q in
    let to = c.args.new_order in
    rw c.renumbered.ensures
    (gathered-more (lists_in c.args.from.now) to.splits.now to.places.now to.order.now l.q (node_lists c.args.nodes.now c.args.spans.now)
    (node_lists l.nodes l.spans) c.requires.has_room c.loop-q-test.true l.invariant)
