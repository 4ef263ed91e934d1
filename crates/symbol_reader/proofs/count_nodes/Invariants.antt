-- `symbol_reader::count_nodes` meets its contract: what is left gives the nodes that are not counted yet. Assumes nothing.
use Rattle.std.proofs.Common.{◌-◌}
use Rattle.model.specs.Settings.{max_nodes}
use Rattle.symbol_reader.proofs.Counting.{Counted}
use Rattle.symbol_reader.proofs.count_nodes.Given as goal

abbrev pub invariant-loop-nodes : goal.invariant-loop-nodes
invariant-loop-nodes l = Counted l.symbols l.nodes l.due l.rest

abbrev pub decreases-loop-nodes : goal.decreases-loop-nodes
decreases-loop-nodes l = max_nodes - l.nodes
