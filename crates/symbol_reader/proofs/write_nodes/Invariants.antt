-- `symbol_reader::write_nodes` meets its contract: what is left gives the nodes that are not written yet. Assumes nothing.
use Rattle.symbol_reader.proofs.Writing.{Written}
use Rattle.symbol_reader.proofs.write_nodes.Given as goal

abbrev pub invariant-loop-i : goal.invariant-loop-i
invariant-loop-i l = Written l.symbols l.nodes l.i l.due l.depth l.level_end l.rest
