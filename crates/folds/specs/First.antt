-- The first place that no other goes before. Assumes nothing.
use Rattle.std.specs.Prelude.{ℕ, zero, suc, Bool, cond, List, get_or}

-- Of the first n places the one left when each in turn is held against the best so far: of an order the first that none goes before. `before k best` says
-- whether place k goes before a lower one
unfoldable pub first_place : (ℕ → ℕ → Bool) → ℕ → ℕ
first_place before zero = 0
first_place before (suc n) =
    let best = first_place before n in
    cond (before n best) n best

-- the entry at place k is above the one at `best`; a place past the end reads as d
abbrev pub is_above : {A : Type 0} → (A → A → Bool) → A → List A → ℕ → ℕ → Bool
is_above less d entries k best = less (get_or entries best d) (get_or entries k d)

-- of the first n entries the first that none of them is above
abbrev pub first_greatest : {A : Type 0} → (A → A → Bool) → A → List A → ℕ → ℕ
first_greatest less d entries = first_place (is_above less d entries)
