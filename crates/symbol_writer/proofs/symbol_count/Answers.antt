-- `symbol_writer::symbol_count` meets its contract. Assumes nothing.
use Rattle.tree.proofs.Soundness.{some_nodes}
use Rattle.symbol_writer.proofs.Counted.{some_leaves, counted}
use Rattle.symbol_writer.proofs.symbol_count.Goals as goal

pub leaves_of-leaves-requires : goal.leaves_of-leaves-requires
leaves_of-leaves-requires c = (some_nodes c.args.tree.now c.requires).1

pub overflow_sub-result : goal.overflow_sub-result
overflow_sub-result c = some_leaves c.args.tree.now c.requires c.leaves_of-leaves.result c.leaves_of-leaves.ensures

pub returns : goal.returns
returns c = counted c.args.tree.now c.requires c.leaves_of-leaves.result c.leaves_of-leaves.ensures
