-- `symbol_reader::write_nodes` meets its contract. Assumes nothing.
use Rattle.std.proofs.Common.{◌<◌, length, arith}
use Rattle.std.proofs.lemmas.List.{take_rest}
use Rattle.symbol_reader.proofs.Writing.{Written, written_none, next_level, same_level, node_there, five_there, written_leaf, written_split, written_all}
use Rattle.symbol_reader.proofs.write_nodes.Goals as goal
use Rattle.symbol_reader.proofs.write_nodes.Goals.{Joined-i-level_end, then-i-level_end, else-i-level_end, then-is_split, else-is_split}

-- the node is one of the level's, which may begin with it
at_level : (c : Joined-i-level_end) → let l = c.loop-i in
    Written c.args.symbols.now l.nodes l.i l.due c.if-i-level_end.depth c.if-i-level_end.level_end l.rest.now × (l.i < c.if-i-level_end.level_end)
at_level c = let l = c.loop-i in elim c.if-i-level_end.branch [
  | then-i-level_end w ↦ rw (w.depth-is, w.level_end-is)
      (next_level c.args.symbols.now l.nodes l.i l.due l.depth l.level_end l.rest.now l.invariant (length c.args.nodes.now) c.requires c.loop-i-test.true w.if-i-level_end.true)
  | else-i-level_end w ↦ rw (w.depth-is, w.level_end-is)
      (same_level c.args.symbols.now l.nodes l.i l.due l.depth l.level_end l.rest.now l.invariant (length c.args.nodes.now) c.requires c.loop-i-test.true w.if-i-level_end.false)
]

pub loop-i-init : goal.loop-i-init
loop-i-init c = written_none c.args.symbols.now c.args.nodes.now

pub overflow_add-depth : goal.overflow_add-depth
overflow_add-depth c = let l = c.loop-i in omega (arith, l.invariant.low, l.invariant.all_due, l.invariant.read.fits)

pub read_node-requires-clause-node : goal.read_node-requires-clause-node
read_node-requires-clause-node c = let l = c.loop-i in
    let (w, here) = at_level c in
    node_there c.args.symbols.now l.nodes l.i l.due _ _ l.rest.now w (length c.args.nodes.now) c.requires c.loop-i-test.true here

pub slice_bounds-rest-count-else-is_split : goal.slice_bounds-rest-count-else-is_split
slice_bounds-rest-count-else-is_split c = let l = c.loop-i in
    let (w, here) = at_level (goal.at.slice_bounds-rest-count-else-is_split c).Joined-i-level_end in
    five_there c.args.symbols.now l.nodes l.i l.due _ _ l.rest.now w (length c.args.nodes.now) c.requires c.loop-i-test.true here l.auto.nodes _
    c.read_node.ensures c.is_split.result c.is_split.ensures c.if-is_split.false

pub slice_bounds-rest-start-else-is_split : goal.slice_bounds-rest-start-else-is_split
slice_bounds-rest-start-else-is_split c = let l = c.loop-i in
    let (w, here) = at_level (goal.at.slice_bounds-rest-start-else-is_split c).Joined-i-level_end in
    five_there c.args.symbols.now l.nodes l.i l.due _ _ l.rest.now w (length c.args.nodes.now) c.requires c.loop-i-test.true here l.auto.nodes _
    c.read_node.ensures c.is_split.result c.is_split.ensures c.if-is_split.false

pub loop-i-preserved : goal.loop-i-preserved
loop-i-preserved c = let l = c.loop-i in
    let (z, here) = at_level (goal.at.loop-i-preserved c).Joined-i-level_end in
    elim c.if-is_split.branch [
      | then-is_split w ↦ rw (w.rest-is, w.due-is, take_rest)
          (written_split c.args.symbols.now l.nodes l.i l.due _ _ l.rest.now z (length c.args.nodes.now) c.requires c.loop-i-test.true here l.auto.nodes _
          c.read_node.ensures c.is_split.result c.is_split.ensures w.if-is_split.true)
      | else-is_split w ↦ rw (w.rest-is, w.due-is, take_rest)
          (written_leaf c.args.symbols.now l.nodes l.i l.due _ _ l.rest.now z (length c.args.nodes.now) c.requires c.loop-i-test.true here l.auto.nodes _
          c.read_node.ensures c.is_split.result c.is_split.ensures w.if-is_split.false)
    ]

pub returns : goal.returns
returns c = let l = c.loop-i in
    written_all c.args.symbols.now l.nodes l.i l.due l.depth l.level_end l.rest.now l.invariant (length c.args.nodes.now) c.requires l.auto.nodes (omega arith)
