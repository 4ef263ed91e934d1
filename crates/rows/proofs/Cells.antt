-- Reading rows of the flat lists: one row, one cell, and the rows of a span. Assumes nothing.
use mathlib.Core.Path.{◌≡◌}
use mathlib.Core.List.{List}
use Prim.Native.Nat.{ℕ, ◌+◌, ◌*◌, ◌/◌, ◌<◌}
use lib.ListN.{length, get_or}
use lib.IntN.{ℤ, pos}
use Rattle.model.specs.Rows.{prop_of, tok_of, rows_held}
use Rattle.model.specs.Promise.{no_row}
use Rattle.model.proofs.Places.{length_rows_of, row-at, property-at, token-at}
use Rattle.rows.specs.Cells.{row_at}

-- ---- one row
module _ (ps : List ℤ) (ts : List ℕ) (rs : List ℤ) where
  pub length-held : length (rows_held ps ts rs) ≡ length ps / 24
  length-held = length_rows_of (length ps / 24) ps ts rs

  pub row-held : (i : ℕ) → i < length ps / 24 → get_or (rows_held ps ts rs) i no_row ≡ row_at ps ts rs i
  unfolding row_at
  row-held i h = row-at (length ps / 24) ps ts rs i h

  -- ---- one cell
  pub prop-held : (i p : ℕ) → i < length ps / 24 → p < 24 → prop_of (get_or (rows_held ps ts rs) i no_row) p ≡ get_or ps (i * 24 + p) (pos 0)
  prop-held i p h l = property-at (length ps / 24) ps ts rs i p h l

  pub tok_held : (i p : ℕ) → i < length ps / 24 → p < 14 → tok_of (get_or (rows_held ps ts rs) i no_row) p ≡ get_or ts (i * 14 + p) 0
  tok_held i p h l = token-at (length ps / 24) ps ts rs i p h l
  -- ---- the rows of a span
