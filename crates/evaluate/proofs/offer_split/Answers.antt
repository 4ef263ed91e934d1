-- `evaluate::offer_split` meets its contract. Assumes nothing.
use mathlib.Core.Path.{ap, ◌∙◌}
use mathlib.Core.List.{List}
use Prim.Native.Nat.{ℕ, ◌-◌}
use lib.ListN.{length}
use Rattle.model.specs.Evaluate.{property_order, nowhere, best_from, best_split, offer_of}
use Rattle.refuse.specs.Given.{settings_of}
use Rattle.score_windows.specs.Windows.{preds_of}
use Rattle.evaluate.specs.Evaluated.{span_rows}
use Rattle.evaluate.proofs.Sides.{costs-length, windowable, splittable, preds_are}
use Rattle.evaluate.proofs.offer_split.Goals as goal

pub cheapest_predictors-preds-requires : goal.cheapest_predictors-preds-requires
cheapest_predictors-preds-requires c = ap length c.requires.costs_value ∙ costs-length c.args.node.hist.now (c.args.span.end - c.args.span.first) c.args.job.settings.alphabet
    c.args.job.settings.allow_wp c.args.job.settings.allowed_preds c.args.job.logs.now

pub set_windows-lanes-requires : goal.set_windows-lanes-requires
set_windows-lanes-requires c = let are = c.deref.ensures.0 ∙ (rw c.allowed.ensures at c.cheapest_predictors-preds.ensures) in
    rw c.requires.alphabet (windowable c.requires.evaluable c.requires.counts_span c.args.costs.now c.deref.result.now c.requires.costs_value are)

pub best_split-best-requires : goal.best_split-best-requires
best_split-best-requires c = let are = c.deref.ensures.0 ∙ (rw c.allowed.ensures at c.cheapest_predictors-preds.ensures) in
    record {
      alphabet = c.requires.alphabet;
      splittable = rw c.deref-2.ensures.0
          (splittable c.requires.evaluable c.requires.counts_span c.args.costs.now c.deref.result.now c.requires.costs_value are c.set_windows-lanes.ensures.preds (rw c.requires.alphabet at c.set_windows-lanes.ensures.windows));
    }

pub returns-clause-answer : goal.returns-clause-answer
unfolding best_split
returns-clause-answer c = let a = c.args in
    let are = c.deref.ensures.0 ∙ (rw c.allowed.ensures at c.cheapest_predictors-preds.ensures) in
    λ rows rs h.
    c.offer_of.ensures
    ∙ ap (offer_of (settings_of a.job.settings) a.cost)
    (c.best_split-best.ensures.answer rows rs h
    ∙ ap (λ (ps : List ℕ). best_from (settings_of a.job.settings) a.job.logs.now ps (span_rows a.span.first a.span.end a.span.props.now a.span.tok.now rows rs) nowhere
    (property_order a.job.settings.allow_wp))
    (ap preds_of c.deref-2.ensures.0 ∙ c.set_windows-lanes.ensures.preds ∙ preds_are c.requires.evaluable c.requires.counts_span a.costs.now c.deref.result.now c.requires.costs_value are rows rs h))
