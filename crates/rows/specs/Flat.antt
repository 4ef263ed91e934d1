-- The three lent lists of rows as one value, their shape, and what an operation leaves in them (document 01, "A job and its rows").
-- Assumes nothing.
use Rattle.std.specs.Prelude.{ℕ, ◌*◌, ◌/◌, ◌≤◌, ◌<◌, ◌≡◌, Bool, cond, not, List, [], length, ℤ}
use Rattle.model.specs.Lists.{is_empty}
use Rattle.model.specs.Settings.{props_per_row, toks_per_row}
use Rattle.model.specs.Rows.{Row, Span, rows_held, props_of, toks_of, res_of}

-- the properties, the tokens and the residuals of all rows
pub record Flat : Type 0 where
  pub props : List ℤ
  pub toks : List ℕ
  pub res : List ℤ

-- the lists, put together
abbrev pub flat : List ℤ → List ℕ → List ℤ → Flat
flat ps ts rs = record { props = ps; toks = ts; res = rs }

-- how many rows there are
abbrev pub row_count : Flat → ℕ
row_count x = length x.props / props_per_row

-- the rows that the lists hold
abbrev pub held_in : Flat → List Row
held_in x = rows_held x.props x.toks x.res

-- lists that hold these rows, with residuals or without (as the model's `lent_after` has them)
abbrev pub flat_of : Bool → List Row → Flat
flat_of residuals rows = flat (props_of rows) (toks_of rows) (cond residuals (res_of rows) [])

-- residuals are given
abbrev pub has_residuals : Flat → Bool
has_residuals x = not (is_empty x.res)

-- what refusal 3 lets pass: 24 properties and 14 tokens a row, residuals none or one a row
pub record Shaped (x : Flat) : Type 0 where
  pub props : length x.props ≡ row_count x * props_per_row
  pub toks : length x.toks ≡ row_count x * toks_per_row
  pub res : 0 < length x.res → length x.res ≡ row_count x

-- a and b are rows of the lists
pub record TwoRows (a b : ℕ) (x : Flat) : Type 0 where
  pub shaped : Shaped x
  pub first : a < row_count x
  pub second : b < row_count x

-- the span is one of the lists
pub record Spanned (s : Span) (x : Flat) : Type 0 where
  pub shaped : Shaped x
  pub ordered : s.first ≤ s.end
  pub inside : s.end ≤ row_count x

-- y is as long as x
pub record SameSize (x y : Flat) : Type 0 where
  pub props : length y.props ≡ length x.props
  pub toks : length y.toks ≡ length x.toks
  pub res : length y.res ≡ length x.res

-- y is as long as x, and its rows are those of x as f changes them
pub record Changed (f : List Row → List Row) (x y : Flat) : Type 0 where
  pub rows : held_in y ≡ f (held_in x)
  pub size : SameSize x y
