-- `tree::leaf_numbers` meets its contract. Assumes nothing.
use Rattle.std.proofs.Common.{◌≡◌, ◌<◌, ◌+◌, ◌*◌, ◌-◌, length, length-take, length-drop, length-set, arith, ◌∙◌}
use Rattle.model.specs.Settings.{props_per_row}
use Rattle.model.specs.Tree.{nodes_of, leaf_reached}
use Rattle.model.proofs.Places.{each-written}
use Rattle.tree.specs.Trees.{records_in}
use Rattle.tree.proofs.Lists.{each-done}
use Rattle.tree.proofs.Routes.{row_leaf, rows_each}
use Rattle.tree.proofs.leaf_numbers.Goals as goal

pub leaf_reached-requires : goal.leaf_reached-requires
leaf_reached-requires c = let rows = c.requires.rows in
    let long = c.loop-row.invariant.0 in
    let inside : c.loop-row.row < length c.args.number.now = omega arith in
    record { sound = c.requires.sound; one_row = simp (length-take, length-drop) (omega arith) }

pub loop-row-preserved : goal.loop-row-preserved
loop-row-preserved c = let l = c.loop-row in
    let long = l.invariant.0 in
    let room : l.row < length c.args.number.now = omega arith in
    let one : l.row * 24 + 24 - l.row * 24 ≡ props_per_row = omega arith in (
      length-set l.number l.row c.leaf_reached.result.0 ∙ long,
      rw (rw one at c.leaf_reached.ensures, l.invariant.1) (each-written (row_leaf c.args.tree.now c.args.props.now) c.args.number.now l.row room),
    )

pub returns : goal.returns
returns c toks res = let t = c.args.tree.now in
    let number = c.args.number.now in
    c.loop-row.invariant.1 ∙ each-done (row_leaf t c.args.props.now) number c.loop-row.row (omega arith)
    ∙ rows_each (leaf_reached (nodes_of (records_in t))) (length number) c.args.props.now toks res
