-- `parts::ostrovuc_score_property` meets its contract: the lanes are those of the lists. Assumes nothing.
use mathlib.Core.Path.{◌≡◌, ◌∙◌}
use Rattle.parts.specs.Windows.{lanes_in}
use Rattle.parts.proofs.Laning.{lanes-long, listed, preds-kept, scorable-laned, windows-laned}
use Rattle.parts.proofs.ostrovuc_score_property.Goals as goal
use Rattle.parts.proofs.ostrovuc_score_property.Goals.{After-deref}

-- what is lent on are the lanes of the lists
lanes-lent : (c : After-deref) → c.deref.result.now ≡ lanes_in c.args.preds.now c.args.firsts.now c.args.offs.now
lanes-lent c = c.deref.ensures.0 ∙ c.lanes_in-lanes.ensures

pub lanes_in-lanes-requires : goal.lanes_in-lanes-requires
lanes_in-lanes-requires c = listed c.requires.windows c.requires.scorable.few_preds

pub score_property-requires-clause-scorable : goal.score_property-requires-clause-scorable
score_property-requires-clause-scorable c =
    let own = lanes-lent (goal.at.score_property-requires-clause-scorable c).After-deref in
    rw own (scorable-laned c.args.firsts.now c.args.offs.now c.requires.scorable)

pub score_property-requires-clause-packed : goal.score_property-requires-clause-packed
score_property-requires-clause-packed c =
    let own = lanes-lent (goal.at.score_property-requires-clause-packed c).After-deref in
    rw own (windows-laned c.requires.windows)

pub score_property-requires-clause-spare : goal.score_property-requires-clause-spare
score_property-requires-clause-spare c =
    let own = lanes-lent (goal.at.score_property-requires-clause-spare c).After-deref in
    rw (own, lanes-long c.args.preds.now c.args.firsts.now c.args.offs.now) c.requires.spare

pub returns-clause-answer : goal.returns-clause-answer
returns-clause-answer c t rows rs same_alphabet there =
    let own = lanes-lent (goal.at.returns-clause-answer c).After-deref in
    let scored = c.score_property.ensures.answer t rows rs same_alphabet there in
    c.from.ensures ∙ rw (own, preds-kept c.requires.windows) at scored
