-- `breadth::walk` meets its contract. Assumes nothing.
use Rattle.std.proofs.Common.{arith}
use Rattle.tree.proofs.Soundness.{some_nodes}
use Rattle.breadth.proofs.Walking.{walked_first, visited_inside, room_behind, walked_on, walked_end}
use Rattle.breadth.proofs.walk.Goals as goal

pub bounds-order-0 : goal.bounds-order-0
bounds-order-0 c = omega (arith, (some_nodes c.args.tree.now c.requires.0).0, c.requires.1)

pub loop-head-init : goal.loop-head-init
loop-head-init c = walked_first c.args.tree.now c.requires.0 c.args.order.now c.requires.1

pub bounds-tree-order : goal.bounds-tree-order
bounds-tree-order c = let l = c.loop-head in visited_inside c.args.tree.now c.requires.0 l.head l.end l.order l.invariant c.loop-head-test.true

pub queue_children-end-requires : goal.queue_children-end-requires
queue_children-end-requires c = let l = c.loop-head in room_behind c.args.tree.now c.requires.0 l.head l.end l.order l.invariant c.loop-head-test.true

pub loop-head-preserved : goal.loop-head-preserved
loop-head-preserved c = let l = c.loop-head in
    rw (c.queue_children-end.ensures.answer, c.queue_children-end.ensures.queue)
    (walked_on c.args.tree.now c.requires.0 l.head l.end l.order l.invariant c.loop-head-test.true)

pub returns : goal.returns
returns c = let l = c.loop-head in walked_end c.args.tree.now c.requires.0 l.head l.end l.order l.invariant c.loop-head-test.false
