-- `grow::split_nodes` meets its contract. Assumes nothing.
use mathlib.Core.Path.{ap, ◌∙◌}
use Prim.Native.Nat.{◌+◌}
use native.Mathlib.Omega.{arith}
use borrow.Author.Rules.{rules}
use lib.ListN.{length, length-set}
use mir.Syntax.{w32}
use mir.Val.{SFits}
use mir.ValLaws.{to_z-of_z}
use Rattle.layout.specs.Tree.{NodeLists, put}
use Rattle.grow.specs.Parts.{side_entry, split_nodes}
use Rattle.grow.proofs.split_nodes.Goals as goal

-- the lists after the split and its first leaf
pub put_leaf-requires-2 : goal.put_leaf-requires-2
unfolding put
put_leaf-requires-2 c =
    let room = c.requires.has_room in
    let split = c.put_split.ensures.lists in
    let first = c.put_leaf.ensures.lists in
    let nodes = ap (λ (l : NodeLists). length l.nodes) first ∙ length-set _ _ _ ∙ ap (λ (l : NodeLists). length l.nodes) split ∙ length-set _ _ _ in
    let spans = ap (λ (l : NodeLists). length l.spans) first ∙ length-set _ _ _ ∙ ap (λ (l : NodeLists). length l.spans) split in
    record { nodes = omega (arith, nodes, room.nodes); spans = omega (arith, spans, room.spans) }

pub returns-clause-nodes : goal.returns-clause-nodes
unfolding split_nodes
returns-clause-nodes c =
    let fits : SFits w32 c.args.offer.val = search rules in
    let split = rw (to_z-of_z w32 c.args.offer.val fits) at c.put_split.ensures.lists in
    c.put_leaf-2.ensures.lists
    ∙ ap (put (c.args.count + 1) (side_entry c.args.sides.le c.args.sides.depth)) (c.put_leaf.ensures.lists ∙ ap (put c.args.count (side_entry c.args.sides.gt c.args.sides.depth)) split)
