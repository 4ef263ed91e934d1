-- `flat::count_groups` meets its contract: the rows that were yielded are counted, and the others are left. Assumes nothing.
use mathlib.Core.Path.{◌≡◌}
use Prim.Native.Nat.{◌≤◌}
use lib.ListN.{length}
use Rattle.rows.specs.Flat.{row_count}
use Rattle.rows.specs.Lent.{flat_seen}
use Rattle.folds.proofs.Chunks.{left_from}
use Rattle.flat.specs.Flat.{CountsGroups}
use Rattle.flat.proofs.count_groups.Given as goal

abbrev pub invariant-loop-props : goal.invariant-loop-props
invariant-loop-props l = let row = length l.yielded in
    let n = row_count (flat_seen l.rows) in
    (row ≤ n) × (l.props-iterator.a.size ≡ 24) × (l.props-iterator.a.rest.now ≡ left_from 24 l.rows.props.now n row)
    × (l.props-iterator.b.size ≡ 14) × (l.props-iterator.b.rest.now ≡ left_from 14 l.rows.tok.now n row)
    × CountsGroups l.rows.props.now l.rows.tok.now row l.alphabet l.hist l.sizes
