-- `flat::add_group` meets its contract: a group of no rows adds nothing. Assumes nothing.
use mathlib.Core.Path.{ap, ◌∙◌}
use borrow.Author.Tests.{eq-eqb, ne_eqb}
use lib.Ieee.{add, binary64}
use Rattle.cost.specs.declared.Cheapest.{Cheapest}
use Rattle.flat.specs.Flat.{with_lowest}
use Rattle.flat.proofs.add_group.Goals as goal

pub returns-then-group-eq0 : goal.returns-then-group-eq0
unfolding with_lowest
returns-then-group-eq0 c = rw (eq-eqb _ _ c.if-group-eq0.true)

pub returns : goal.returns
unfolding with_lowest
returns c = rw (ne_eqb _ _ c.if-group-eq0.false) (ap (add binary64 c.args.total) (c.from.ensures ∙ ap (λ (b : Cheapest). b.bits) c.predictor_costs-best.ensures.answer))
