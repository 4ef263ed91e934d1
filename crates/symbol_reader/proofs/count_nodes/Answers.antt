-- `symbol_reader::count_nodes` meets its contract. Assumes nothing.
use Rattle.std.proofs.lemmas.List.{take_rest}
use Rattle.symbol_reader.proofs.Counting.{counted_none, counted_leaf, counted_split, no_tree, counted_all, some_left}
use Rattle.symbol_reader.proofs.count_nodes.Goals as goal
use Rattle.symbol_reader.proofs.count_nodes.Goals.{then-is_leaf, else-is_leaf+then-is_split-due}

pub loop-nodes-init : goal.loop-nodes-init
loop-nodes-init c = counted_none c.args.symbols.now

pub loop-nodes-preserved : goal.loop-nodes-preserved
loop-nodes-preserved c = let l = c.loop-nodes in elim c.if-is_leaf.branch [
  | then-is_leaf w ↦ rw (w.rest-is, w.due-is, take_rest)
      (counted_leaf c.args.symbols.now l.nodes l.due l.rest.now l.invariant c.loop-nodes-test.true c.is_leaf.result c.is_leaf.ensures w.if-is_leaf.true)
  | else-is_leaf+then-is_split-due w ↦ rw (w.rest-is, w.due-is, take_rest)
      (counted_split c.args.symbols.now l.nodes l.due l.rest.now l.invariant c.loop-nodes-test.true w.is_split.result w.is_split.ensures w.if-is_split-due.true)
]

pub returns-else-is_split-due : goal.returns-else-is_split-due
returns-else-is_split-due c = let l = c.loop-nodes in
    no_tree c.args.symbols.now l.nodes l.due l.rest.now l.invariant c.loop-nodes-test.true _ _ c.is_leaf.ensures c.is_split.ensures c.if-is_leaf.false c.if-is_split-due.false

pub returns-then-is_empty : goal.returns-then-is_empty
returns-then-is_empty c = let l = c.loop-nodes in
    counted_all c.args.symbols.now l.nodes l.due l.rest.now l.invariant c.loop-nodes-test.false _ c.is_empty.ensures c.if-is_empty.true

pub returns-else-is_empty : goal.returns-else-is_empty
returns-else-is_empty c = let l = c.loop-nodes in
    some_left c.args.symbols.now l.nodes l.due l.rest.now l.invariant c.loop-nodes-test.false _ c.is_empty.ensures c.if-is_empty.false
