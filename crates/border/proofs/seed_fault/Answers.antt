-- `border::seed_fault` meets its contract: the seed is the tree of the first nodes. Assumes nothing.
use Rattle.tree.proofs.Entries.{tree-is}
use Rattle.border.proofs.seed_fault.Goals as goal

pub returns : goal.returns
returns c = rw (tree-is c.args.at.now.nodes.now c.args.count) c.fault_of.ensures
