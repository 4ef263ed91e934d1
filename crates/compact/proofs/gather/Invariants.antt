-- `compact::gather` meets its contract: the entries passed are gathered. Assumes nothing.
use Rattle.std.proofs.Common.{◌≡◌, take}
use Rattle.layout.specs.Tree.{node_lists, holding}
use Rattle.layout.specs.Lent.{lists_in}
use Rattle.compact.specs.Moves.{entries_from}
use Rattle.compact.proofs.gather.Given as goal

abbrev pub invariant-loop-q : goal.invariant-loop-q
invariant-loop-q l = node_lists l.nodes l.spans
    ≡ holding (entries_from (lists_in l.from) l.new_order.splits.now l.new_order.places.now (take l.q l.new_order.order.now)) (node_lists l.initial.nodes l.initial.spans)
