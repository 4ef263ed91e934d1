-- The histograms of all predictors in one list, and how counting a row changes it. Assumes nothing.
use Rattle.std.specs.Prelude.{◌≡◌, ℕ, zero, suc, ◌+◌, ◌*◌, ◌≤◌, ◌<◌, List, [], ◌++◌, ℤ, length, get_or, take, drop}
pub use Rattle.folds.specs.Counts.{bumped}
use Rattle.model.specs.Settings.{toks_per_row, max_rows}
use Rattle.model.specs.Rows.{Row, Span, within, rows_of}
use Rattle.model.specs.Cost.{histogram}

-- n lists, one after the other
unfoldable pub end_to_end : (ℕ → List ℕ) → ℕ → List ℕ
end_to_end f zero = []
end_to_end f (suc n) = end_to_end f n ++ f n

-- number i of lists of one length that stand end to end
abbrev pub part : ℕ → ℕ → List ℕ → List ℕ
part width i cells = take width (drop (i * width) cells)

-- predictor p's histogram stands at p × alphabet
unfoldable pub histograms : ℕ → List Row → List ℕ
histograms alphabet rows = end_to_end (λ (p : ℕ). histogram alphabet p rows) toks_per_row

-- ---- counting a row, as the code does it

-- one more in each of the cells f 0, .., f (n - 1); of a list's entries it is `folds`' `tallied`
unfoldable pub tallied : (ℕ → ℕ) → ℕ → List ℕ → List ℕ
tallied f zero cells = cells
tallied f (suc n) cells = bumped (f n) (tallied f n cells)

-- the cell of a row's token under predictor p, in the histograms that start at `base`
abbrev pub token_cell : List ℕ → ℕ → ℕ → ℕ → ℕ
token_cell tokens base alphabet p = base + p * alphabet + get_or tokens p 0

-- a row's tokens are there, perhaps with more behind them, and below the alphabet, and there is room for its counts
pub record RowFits (tokens : List ℕ) (base alphabet : ℕ) (cells : List ℕ) : Type 0 where
  pub whole : toks_per_row ≤ length tokens
  pub below : (p : ℕ) → p < toks_per_row → get_or tokens p 0 < alphabet
  pub room : base + toks_per_row * alphabet ≤ length cells
  pub low : (i : ℕ) → get_or cells i 0 ≤ max_rows

-- ---- a span

-- the rows first, first + 1, .., end - 1
abbrev pub span_of : ℕ → ℕ → Span
span_of first end = record { first = first; end = end }

-- the span's rows are there, and their tokens are below the alphabet
pub record SpanFits (tok : List ℕ) (first end alphabet : ℕ) : Type 0 where
  pub order : first ≤ end
  pub few : end ≤ max_rows
  pub there : end * toks_per_row ≤ length tok
  pub below : (i : ℕ) → first * toks_per_row ≤ i → i < end * toks_per_row → get_or tok i 0 < alphabet

-- the histograms of the span's rows, whatever properties and residuals stand beside the tokens
abbrev pub CountsSpan : List ℕ → ℕ → ℕ → List ℕ → ℕ → Type 0
CountsSpan tok first end hist alphabet = (rows : ℕ) (ps rs : List ℤ) → end ≤ rows → hist ≡ histograms alphabet (within (span_of first end) (rows_of rows ps tok rs))
