-- `grow::split_rows` meets its contract: the partition, its place from how many rows go below, and then the two leaves. Assumes nothing.
use mathlib.Core.Path.{refl, sym, subst}
use mathlib.Core.List.{List}
use Prim.Native.Nat.{ℕ, ◌-◌}
use borrow.Author.Rules.{rules}
use lib.IntN.{ℤ}
use mir.Syntax.{w32}
use mir.Val.{SFits, to_z, of_z}
use mir.ValLaws.{to_z-of_z}
use Rattle.model.specs.Rows.{Span}
use Rattle.rows.specs.Flat.{Flat}
use Rattle.rows.specs.Parted.{Partitioned}
use Rattle.rows.specs.Lent.{flat_with}
use Rattle.rows.proofs.Shapes.{tokens-then}
use Rattle.lent.specs.Fitting.{LeafFits}
use Rattle.leaf.proofs.Making.{made-back}
use Rattle.grow.proofs.Dividing.{below_inside, placed, gt-fits, le-fits, rows_split}
use Rattle.grow.proofs.split_rows.Goals as goal

-- a threshold in range is the number that the partition was given
given_val : {prop at : ℕ} {sp : Span} {x y : Flat} (val : ℤ) → SFits w32 val → Partitioned prop (to_z w32 (of_z w32 val)) sp x y at → Partitioned prop val sp x y at
given_val val fits done = rw (to_z-of_z w32 val fits) at done

pub overflow_sub-middle : goal.overflow_sub-middle
overflow_sub-middle c =
    let fits : SFits w32 c.args.pending.offer.val = search rules in
    below_inside c.requires.fits (given_val c.args.pending.offer.val fits c.partition.ensures.rows) c.requires.below

pub make_leaf-gt-requires : goal.make_leaf-gt-requires
make_leaf-gt-requires c =
    let fits : SFits w32 c.args.pending.offer.val = search rules in
    gt-fits c.requires.fits (placed c.requires.fits (given_val c.args.pending.offer.val fits c.partition.ensures.rows) c.requires.below)

pub make_leaf-le-requires : goal.make_leaf-le-requires
make_leaf-le-requires c =
    let fits : SFits w32 c.args.pending.offer.val = search rules in
    let done = placed c.requires.fits (given_val c.args.pending.offer.val fits c.partition.ensures.rows) c.requires.below in
    subst (λ (l : List ℕ). LeafFits (flat_with c.make_leaf-gt.new.rows) (c.args.span.end - c.args.pending.offer.below) c.args.span.end c.args.job l) (sym c.make_leaf-gt.ensures.zeros)
    (le-fits c.requires.fits done c.make_leaf-gt.ensures.answer)

pub returns-clause-split : goal.returns-clause-split
returns-clause-split c =
    let fits : SFits w32 c.args.pending.offer.val = search rules in
    let done = placed c.requires.fits (given_val c.args.pending.offer.val fits c.partition.ensures.rows) c.requires.below in
    let gt = c.make_leaf-gt.ensures in
    let le = c.make_leaf-le.ensures in
    rows_split c.requires.fits done gt.answer (made-back (tokens-then gt.lent le.lent) (search rules) le.answer) _ _ refl refl
