-- What `pick_candidates` asks for (document 01, "Candidates"). Assumes nothing.
use Rattle.std.specs.Prelude.{ℕ, List, ℤ}
use Rattle.distinct.specs.Marks.{Blank}
use Rattle.candidates.specs.Column.{Held}

-- the list holds the span's rows, and the flags are blank
pub record Pickable (ps : List ℤ) (prop first end : ℕ) (flags : List ℕ) : Type 0 where
  pub held : Held ps prop first end
  pub blank : Blank flags
