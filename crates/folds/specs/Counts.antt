-- Cells that count by place. Assumes nothing.
use Rattle.std.specs.Prelude.{ℕ, ◌+◌, List, [], ◌∷◌, get_or, set}

-- one more in a cell
abbrev pub bumped : ℕ → List ℕ → List ℕ
bumped i cells = set cells i (get_or cells i 0 + 1)

-- one more for each entry, in its cell
unfoldable pub tallied : {A : Type 0} → (A → ℕ) → List A → List ℕ → List ℕ
tallied cell [] cells = cells
tallied cell (x ∷ xs) cells = tallied cell xs (bumped (cell x) cells)
