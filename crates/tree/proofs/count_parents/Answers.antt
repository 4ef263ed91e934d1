-- `tree::count_parents` meets its contract. Assumes nothing.
use Rattle.std.proofs.Common.{◌<◌, length, arith, ◌∙◌}
use Rattle.tree.proofs.Parents.{counts-low, counts-more}
use Rattle.tree.proofs.count_parents.Goals as goal

pub count_children-requires : goal.count_children-requires
count_children-requires c = let l = c.loop-i in
    let few = c.requires.0 in
    let inside : l.i < length c.args.tree.now = omega arith in
    let low = counts-low c.args.tree.now l.i l.parents (omega arith) l.invariant.1 in
    record { places = (inside, l.invariant.0); room = λ k h. omega (arith, low k h) }

pub loop-i-preserved : goal.loop-i-preserved
loop-i-preserved c = let l = c.loop-i in
    let inside : l.i < length c.args.tree.now = omega arith in
    let long = c.count_children.auto.parents in
    (long ∙ l.invariant.0, counts-more c.args.tree.now l.i l.parents c.count_children.new.parents inside long l.invariant.1 c.count_children.ensures)
