-- `seed_rows::number_rows` meets its contract. Assumes nothing.
use mathlib.Core.Path.{ap, ◌∙◌}
use Prim.Native.Nat.{ℕ}
use Rattle.model.specs.Rows.{rows_of}
use Rattle.model.specs.Tree.{nodes_of}
use Rattle.order.specs.Leaves.{leaf_numbers}
use Rattle.tree.proofs.Entries.{tree-is}
use Rattle.seed_rows.specs.Ordered.{seed_of}
use Rattle.seed_rows.proofs.Seeds.{front-sound}
use Rattle.seed_rows.proofs.number_rows.Goals as goal

pub leaf_numbers-requires : goal.leaf_numbers-requires
leaf_numbers-requires c = let r = c.requires in
    record { sound = front-sound c.args.nodes.now c.args.count r.sound; rows = rw r.places r.shaped.props }

pub returns : goal.returns
unfolding leaf_numbers
returns c =
    let rows = c.args.rows.now in
    rw (← tree-is c.args.nodes.now c.args.count) at (c.leaf_numbers.ensures rows.tok.now rows.res.now)
    ∙ ap (λ (k : ℕ). leaf_numbers (nodes_of (seed_of c.args.count c.args.nodes.now)) (rows_of k rows.props.now rows.tok.now rows.res.now)) c.requires.places
