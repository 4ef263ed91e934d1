-- `contexts::number_leaves` meets its contract. Assumes nothing.
use Rattle.std.proofs.Common.{replicate, length, ◌∙◌, ap, arith, ℕ}
use lib.Seq.{take_all}
use Rattle.model.specs.Contexts.{no_context}
use Rattle.contexts.proofs.Numbering.{numbered_first, next_inside, giveable, numbered_on, numbered_end}
use Rattle.contexts.proofs.number_leaves.Goals as goal

pub loop-i-init : goal.loop-i-init
loop-i-init c =
    let a = c.args in
    let whole = take_all (length a.queue.now) a.tree.now (omega (arith, c.requires.queue_there)) in
    let ordered = rw whole at c.breadth_order.ensures in
    numbered_first a.tree.now c.requires.sound c.breadth_order.new.order c.fill.new.self ordered
    (c.fill.ensures.after (λ y e. e) ∙ ap (λ (n : ℕ). replicate n no_context) c.requires.places)

pub bounds-tree-i : goal.bounds-tree-i
bounds-tree-i c = let l = c.loop-i in
    next_inside c.args.tree.now c.requires.sound c.breadth_order.new.order l.i-index l.next.0 l.contexts l.invariant c.loop-i-test.true

pub give_context-next-requires : goal.give_context-next-requires
give_context-next-requires c = let l = c.loop-i in
    giveable c.args.tree.now c.requires.sound c.breadth_order.new.order l.i-index l.next.0 l.contexts l.invariant c.loop-i-test.true

pub loop-i-preserved : goal.loop-i-preserved
loop-i-preserved c = let l = c.loop-i in
    numbered_on c.args.tree.now c.requires.sound c.breadth_order.new.order l.i-index l.next.0 l.contexts l.invariant c.loop-i-test.true _
    c.give_context-next.ensures

pub returns : goal.returns
returns c = let l = c.loop-i in
    numbered_end c.args.tree.now c.requires.sound c.breadth_order.new.order l.i-index l.next.0 l.contexts l.invariant (omega arith)
