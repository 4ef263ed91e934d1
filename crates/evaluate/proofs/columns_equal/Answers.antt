-- `evaluate::columns_equal` meets its contract: the chunks are the span's rows. Assumes nothing.
use mathlib.Core.Path.{◌≡◌}
use Prim.Native.Nat.{◌-◌, ◌*◌}
use native.Mathlib.Omega.{arith}
use borrow.Author.Rules.{rules}
use borrow.Author.Tests.{tests}
use lib.IntN.{ℤ, pos}
use lib.ListN.{length, get_or, take, drop, length-take, length-drop}
use mathlib.Core.List.{List}
use Rattle.std.proofs.lemmas.Iterator.{cases_from_all}
use Rattle.evaluate.proofs.Chunks.{chunks_yielded, equal_by_chunks}
use Rattle.evaluate.proofs.columns_equal.Goals as goal

pub returns : goal.returns
returns c = let a = c.args in
    let n = a.span.end - a.span.first in
    let rows = take (a.span.end * 24 - a.span.first * 24) (drop (a.span.first * 24) a.span.props.now) in
    let long : length rows ≡ n * 24 = omega (arith, length-take (a.span.end * 24 - a.span.first * 24) (drop (a.span.first * 24) a.span.props.now), length-drop (a.span.first * 24) a.span.props.now, c.requires) in
    let given = chunks_yielded n c.chunks_exact.result rows c.chunks_exact.ensures.size c.chunks_exact.ensures.rest long in
    equal_by_chunks a.span.props.now a.span.first a.span.end a.a a.b c.requires.0 c.requires.2 c.requires.3 c.all.result
    (cases_from_all _ _ _ (λ (row : List ℤ). get_or row a.a (pos 0) ≡ get_or row a.b (pos 0)) (λ (row : List ℤ). get_or row a.a (pos 0) ≡ get_or row a.b (pos 0) → ⊥) c.all.ensures.ran given (λ x q k. search (rules, tests)) (λ x q k. search (rules, tests)))
