-- A new leaf over a span: the mode step, and then the node's evaluation (document 01, "Growth": both parts take their own mode). Assumes nothing.
use Rattle.std.specs.Prelude.{ℕ, ◌<◌, Bool, List, ◌++◌, length, get_or, take, drop}
use Rattle.model.specs.Rows.{Row, Span, within}
use Rattle.model.specs.Mode.{span_mode, fresh}
use Rattle.refuse.specs.Given.{settings_of}
use Rattle.refuse.specs.declared.Job.{Job}
use Rattle.layout.specs.declared.Leaf.{Leaf}
use Rattle.rows.specs.Flat.{Flat, held_in, Changed}
use Rattle.evaluate.specs.Evaluated.{Evaluated}
use Rattle.lent.specs.Fitting.{uses_of}

-- the rows of the span with their own mode's tokens; the rest stays
abbrev pub settled_at : Bool → Span → List Row → List Row
settled_at uses s rows = take s.first rows ++ fresh uses (within s rows) ++ drop s.end rows

-- y is x after the mode step on the span, and r is what the node was evaluated to
pub record MadeLeaf (scored : Bool) (job : Job) (depth : ℕ) (sp : Span) (x y : Flat) (r : Leaf) : Type 0 where
  pub changed : Changed (settled_at (uses_of job.settings x) sp) x y
  pub leaf : Evaluated r scored (settings_of job.settings) job.logs.now (span_mode (uses_of job.settings x) (within sp (held_in x))) depth (fresh (uses_of job.settings x) (within sp (held_in x)))
  -- a zero token that is made anew is at most 127, and modes are in use only with an alphabet of 128 and more
  pub below : (k : ℕ) → k < length y.toks → get_or y.toks k 0 < job.settings.alphabet
