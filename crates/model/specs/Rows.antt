-- Rows, and how they stand in the lent flat lists (document 01, "A job and its rows"). Assumes nothing.
use Rattle.std.specs.Prelude.{ℕ, zero, suc, ◌-◌, ◌/◌, Bool, List, [], ◌∷◌, ◌++◌, map, length, get_or, take, drop, set, ℤ, pos}
use Rattle.std.proofs.Math.Seq.{slice}
use Rattle.std.specs.Int.Signed.{lt_z}
use Rattle.model.specs.Settings.{props_per_row, toks_per_row}

-- 24 properties, 14 tokens, and the residual. In a job without residuals it is 0, and nothing reads it
pub record Row : Type 0 where
  pub props : List ℤ
  pub toks : List ℕ
  pub res : ℤ

abbrev pub prop_of : Row → ℕ → ℤ
prop_of r p = get_or r.props p (pos 0)

abbrev pub tok_of : Row → ℕ → ℕ
tok_of r p = get_or r.toks p 0

-- the row with another token of the zero predictor
abbrev pub with_zero : ℕ → Row → Row
with_zero t r = record { props = r.props; toks = set r.toks 0 t; res = r.res }

-- a row's property lies above the value
abbrev pub is_above : ℕ → ℤ → Row → Bool
is_above prop val r = lt_z val (prop_of r prop)

-- the rows first, first + 1, .., end - 1
pub record Span : Type 0 where
  pub first : ℕ
  pub end : ℕ

abbrev pub no_span : Span
no_span = record { first = 0; end = 0 }

abbrev pub within : Span → List Row → List Row
within s rows = slice s.first s.end rows

-- how many rows it has
abbrev pub span_size : Span → ℕ
span_size s = s.end - s.first

-- ---- the flat lists
-- n rows from the front of the lists; residuals may be none
abbrev pub rows_of : ℕ → List ℤ → List ℕ → List ℤ → List Row
rows_of zero ps ts rs = []
rows_of (suc n) ps ts rs =
    record { props = take props_per_row ps; toks = take toks_per_row ts; res = get_or rs 0 (pos 0) }
    ∷ rows_of n (drop props_per_row ps) (drop toks_per_row ts) (drop 1 rs)

-- all rows that the lists hold
abbrev pub rows_held : List ℤ → List ℕ → List ℤ → List Row
rows_held ps ts rs = rows_of (length ps / props_per_row) ps ts rs

-- one part of each row, end to end
abbrev pub joined {ℓ} : {A : Type ℓ} → (Row → List A) → List Row → List A
joined part [] = []
joined part (r ∷ rs) = part r ++ joined part rs

abbrev pub props_of : List Row → List ℤ
props_of = joined (λ (r : Row). r.props)

abbrev pub toks_of : List Row → List ℕ
toks_of = joined (λ (r : Row). r.toks)

abbrev pub res_of : List Row → List ℤ
res_of = map (λ (r : Row). r.res)
