-- `symbol_writer::write_tree` meets its contract. Assumes nothing.
use Rattle.std.proofs.Common.{length, arith}
use lib.Seq.{take_all}
use Rattle.symbol_writer.proofs.Along.{written_first, next_inside, puttable, written_on, written_end}
use Rattle.symbol_writer.proofs.write_tree.Goals as goal

pub loop-i-init : goal.loop-i-init
loop-i-init c =
    let a = c.args in
    let whole = take_all (length a.order.now) a.tree.now (omega (arith, c.requires.order_there)) in
    let ordered = rw whole at c.breadth_order.ensures in
    written_first a.tree.now c.requires.sound c.breadth_order.new.order a.symbols.now ordered c.requires.places

pub bounds-tree-i : goal.bounds-tree-i
bounds-tree-i c = let l = c.loop-i in
    next_inside c.args.tree.now c.requires.sound c.breadth_order.new.order l.i-index l.at l.symbols l.invariant c.loop-i-test.true

pub put_node-at-requires : goal.put_node-at-requires
put_node-at-requires c = let l = c.loop-i in
    puttable c.args.tree.now c.requires.sound c.breadth_order.new.order l.i-index l.at l.symbols l.invariant c.loop-i-test.true

pub loop-i-preserved : goal.loop-i-preserved
loop-i-preserved c = let l = c.loop-i in
    written_on c.args.tree.now c.requires.sound c.breadth_order.new.order l.i-index l.at l.symbols l.invariant c.loop-i-test.true _ _
    c.put_node-at.ensures

pub returns : goal.returns
returns c = let l = c.loop-i in
    written_end c.args.tree.now c.requires.sound c.breadth_order.new.order l.i-index l.at l.symbols l.invariant (omega arith)
