-- A predictor passes the test if one is kept. Assumes nothing.
use borrow.Author.Rules.{rules}
use borrow.Author.Tests.{tests}
use mathlib.Core.Path.{refl, ◌∙◌}
use Rattle.std.proofs.lemmas.Iterator.{YieldsList-from_range}
use Rattle.std.proofs.lemmas.Iterator.Search.{any_from_yields_List}
use Rattle.model.specs.Cost.{is_usable}
use Rattle.refuse.specs.Given.{settings_of}
use Rattle.refuse.proofs.Scan.{usable-any}
use Rattle.refuse.proofs.any_usable.Goals as goal

pub returns : goal.returns
returns c =
    let t = settings_of c.args.s in
    any_from_yields_List (is_usable t) _ _ _ c.any.ensures.ran (YieldsList-from_range 0 14 14 refl refl) (λ x b q k. search (rules, tests)) ∙ usable-any t
