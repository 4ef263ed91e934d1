-- `layout::MaNode::kept` meets its contract: a split keeps its fields. Assumes nothing.
use Rattle.std.proofs.Common.{rules, ◌≡◌, eqb, true, w32, ◌∙◌, sym}
use mir.ValLaws.{to_z-of_z}
use lib.Ieee.{of_bits}
use Rattle.layout.proofs.MaNode.kept.Goals as goal

pub returns : goal.returns
unfolding of_bits
returns c = let m = c.args.self.now in
    let split : eqb m.kind 1 ≡ true = sym c.is_split.ensures ∙ c.if-not-is_split.false in
    let (_, (no_pred, no_offset)) = c.default.ensures in
    rw (split, no_pred, no_offset, to_z-of_z w32 m.val (search rules))
