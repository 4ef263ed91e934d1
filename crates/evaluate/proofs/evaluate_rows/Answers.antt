-- `evaluate::evaluate_rows` meets its contract. Assumes nothing.
use mathlib.Core.Path.{subst}
use lib.IntN.{ℤ}
use mir.Syntax.{w32}
use mir.ValLaws.{to_z-of_z}
use Rattle.refuse.specs.Given.{settings_of}
use Rattle.evaluate.specs.Evaluated.{Evaluated, span_rows}
use Rattle.evaluate.proofs.Nodes.{cells-zero, cells-there, cells-counted}
use Rattle.evaluate.proofs.evaluate_rows.Goals as goal

pub count_tokens-requires : goal.count_tokens-requires
count_tokens-requires c = record { span_fits = c.requires.tokens; hist_value = cells-zero c.requires }

pub slice_bounds-hist-end-2 : goal.slice_bounds-hist-end-2
slice_bounds-hist-end-2 c = cells-there c.requires c.count_tokens.ensures _

pub evaluate_counts-requires : goal.evaluate_counts-requires
evaluate_counts-requires c = record { evaluable = c.requires; counts_span = cells-counted c.requires c.count_tokens.ensures _ }

pub returns : goal.returns
returns c = let a = c.args in
    record {
      answer = (λ rows rs h.
          subst
          (λ (mode : ℤ). Evaluated c.evaluate_counts.result a.score_split (settings_of a.job.settings) a.job.logs.now mode a.depth
          (span_rows a.span.first a.span.end a.rows.props.now a.rows.tok.now rows rs))
          (to_z-of_z w32 a.mode c.ranges.mode) (c.evaluate_counts.ensures.answer rows rs h));
      zeros = c.evaluate_counts.ensures.zeros;
    }
