-- One row of the flat lists, and short names. Assumes nothing.
use Rattle.std.specs.Prelude.{ℕ, List, get_or, ℤ, pos}
use Rattle.model.specs.Settings.{props_per_row, toks_per_row}
use Rattle.model.specs.Rows.{Row, Span}
use Rattle.model.specs.Promise.{no_row}
use Rattle.rows.specs.Blocks.{block, swapped}

-- row i (document 01, "A job and its rows"); its residual is 0 where there are none
unfoldable pub row_at : List ℤ → List ℕ → List ℤ → ℕ → Row
row_at ps ts rs i = record { props = block props_per_row i ps; toks = block toks_per_row i ts; res = get_or rs i (pos 0) }

-- the rows first, first + 1, .., end - 1
abbrev pub span : ℕ → ℕ → Span
span first end = record { first = first; end = end }

-- rows a and b trade places (document 01, "Growth": by `partition_by`'s swaps)
abbrev pub swap_rows : ℕ → ℕ → List Row → List Row
swap_rows a b rows = swapped no_row a b rows
