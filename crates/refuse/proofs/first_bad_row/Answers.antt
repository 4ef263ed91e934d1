-- The first cell that is not below the alphabet stands in the row to name. Assumes nothing.
use borrow.Author.Rules.{rules}
use borrow.Author.Tests.{tests}
use mathlib.Core.Path.{sym, ap, ◌∙◌}
use Prim.Native.Nat.{ℕ, ◌≤◌, ◌<◌}
use Rattle.std.specs.Prelude.{Option}
use Rattle.std.proofs.lemmas.Iterator.{IsFirst-from_position, YieldsList-from_slice}
use Rattle.refuse.specs.Given.{found_of}
use Rattle.refuse.proofs.Scan.{row-of, row_in}
use Rattle.refuse.proofs.first_bad_row.Goals as goal

pub returns-in_err-cell : goal.returns-in_err-cell
returns-in_err-cell c =
    let a = c.args.alphabet in
    let toks = c.args.tok.now in
    let first = IsFirst-from_position _ _ c.position.result (λ t. a ≤ t) (λ t. t < a) c.position.ensures.ran (YieldsList-from_slice toks cc) (λ x q k. search (rules, tests)) (λ x q k. search (rules, tests)) in
    c.from_residual.ensures ∙ sym (ap found_of (row-of a toks c.position.result c.requires.whole first) ∙ ap (λ (o : Option ℕ). found_of (row_in o)) c.in_err-cell.was)

pub returns : goal.returns
returns c =
    let a = c.args.alphabet in
    let toks = c.args.tok.now in
    let first = IsFirst-from_position _ _ c.position.result (λ t. a ≤ t) (λ t. t < a) c.position.ensures.ran (YieldsList-from_slice toks cc) (λ x q k. search (rules, tests)) (λ x q k. search (rules, tests)) in
    sym (ap found_of (row-of a toks c.position.result c.requires.whole first) ∙ ap (λ (o : Option ℕ). found_of (row_in o)) c.in_ok-cell.was)
