-- One property of a span's rows, in the flat list of properties. Assumes nothing.
use Rattle.std.specs.Prelude.{ℕ, ◌+◌, ◌-◌, ◌*◌, ◌≤◌, ◌<◌, List, map, length, get_or, ℤ, pos}
use Rattle.model.specs.Lists.{range}
use Rattle.model.specs.Settings.{props_per_row}
use Rattle.model.specs.Candidates.{stride, every}

-- property prop of the rows first, first + 1, .., end - 1
unfoldable pub column : List ℤ → ℕ → ℕ → ℕ → List ℤ
column ps prop first end = map (λ (row : ℕ). get_or ps (row * props_per_row + prop) (pos 0)) (range first (end - first))

-- the list holds the span's rows
pub record Held (ps : List ℤ) (prop first end : ℕ) : Type 0 where
  pub ordered : first ≤ end
  pub inside : end * props_per_row ≤ length ps
  pub known : prop < props_per_row

-- the values of the property in the span's probed rows
unfoldable pub probe_of : List ℤ → ℕ → ℕ → ℕ → List ℤ
probe_of ps prop first end = every (stride (end - first)) 0 (column ps prop first end)
