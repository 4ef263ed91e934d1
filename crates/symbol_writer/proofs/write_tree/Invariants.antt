-- `symbol_writer::write_tree` meets its contract. The invariant: the symbols of the first nodes of the order are put. Assumes nothing.
use Rattle.symbol_writer.proofs.Along.{Written}
use Rattle.symbol_writer.proofs.write_tree.Given as goal

abbrev pub invariant-loop-i : goal.invariant-loop-i
invariant-loop-i l = Written l.tree l.i-items l.i-index l.at l.symbols
