-- `evaluate::evaluate_counts` meets its contract. Assumes nothing.
use mathlib.Core.Path.{refl, ap, ◌∙◌}
use mir.Syntax.{w32}
use mir.ValLaws.{to_z-of_z}
use Rattle.evaluate.specs.Evaluated.{info_with}
use Rattle.evaluate.proofs.Nodes.{usable-node, evaluated_scored, evaluated_not}
use Rattle.evaluate.proofs.evaluate_counts.Goals as goal

pub predictor_costs-best-requires : goal.predictor_costs-best-requires
predictor_costs-best-requires c = rw c.allowed.ensures (usable-node c.requires.evaluable c.requires.counts_span _ refl)

pub returns-then-score_split-is_scored : goal.returns-then-score_split-is_scored
returns-then-score_split-is_scored c = let a = c.args in
    let lowest = rw c.allowed.ensures at c.predictor_costs-best.ensures.answer in
    record {
      answer = (λ rows rs h.
          evaluated_scored c.requires.evaluable c.requires.counts_span
          lowest a.mode a.depth rows rs h
          a.score_split c.is_scored.ensures
          (c.info_of-info.ensures
          ∙ ap (info_with c.predictor_costs-best.result)
          (to_z-of_z w32 a.mode c.ranges.mode))
          c.if-score_split-is_scored.true (c.offer_split-offer.ensures.answer rows rs h));
      zeros = c.offer_split-offer.ensures.zeros;
    }

pub returns : goal.returns
returns c = let a = c.args in
    let lowest = rw c.allowed.ensures at c.predictor_costs-best.ensures.answer in
    record {
      answer = (λ rows rs h.
          evaluated_not c.requires.evaluable c.requires.counts_span lowest a.mode a.depth rows rs h
          a.score_split c.is_scored.ensures (c.info_of-info.ensures
          ∙ ap (info_with c.predictor_costs-best.result) (to_z-of_z w32 a.mode c.ranges.mode))
          c.if-score_split-is_scored.false);
      zeros = refl;
    }
