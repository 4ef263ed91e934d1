-- `evaluate::offer_of` meets its contract. Assumes nothing.
use lib.Ieee.{of_bits}
use mir.Syntax.{w32}
use borrow.Author.Rules.{rules}
use mir.Val.{SFits}
use mir.ValLaws.{to_z-of_z}
use Rattle.refuse.specs.Given.{settings_of}
use Rattle.evaluate.proofs.Folds.{offered-none, offered-some, offered-low}
use Rattle.evaluate.proofs.offer_of.Goals as goal

pub returns-in_err-split : goal.returns-in_err-split
returns-in_err-split c = let a = c.args in rw c.from_residual.ensures (offered-none (settings_of a.s) a.cost c.in_err-split.was)

pub returns-then-gain : goal.returns-then-gain
unfolding of_bits
returns-then-gain c = let a = c.args in
    let fits : SFits w32 c.in_ok-split.split.val = search rules in
    offered-some (settings_of a.s) a.cost c.in_ok-split.was c.if-gain.true _ (to_z-of_z w32 c.in_ok-split.split.val fits)

pub returns : goal.returns
unfolding of_bits
returns c = let a = c.args in
    offered-low (settings_of a.s) a.cost c.in_ok-split.was c.if-gain.false
