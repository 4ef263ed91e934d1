-- `tree::leaf_numbers` meets its contract. The invariant: the places of the rows passed hold their leaves, the others what they held. Assumes nothing.
use Rattle.std.proofs.Common.{◌≡◌, length, drop, map, ◌++◌}
use Rattle.model.specs.Lists.{range}
use Rattle.tree.proofs.Routes.{row_leaf}
use Rattle.tree.proofs.leaf_numbers.Given as goal

abbrev pub invariant-loop-row : goal.invariant-loop-row
invariant-loop-row l = (length l.number ≡ length l.initial.number) × (l.number ≡ map (row_leaf l.tree l.props) (range 0 l.row) ++ drop l.row l.initial.number)
