-- The order of the properties, and the twin that a property may repeat (document 01, "A node"). Assumes nothing.
use Rattle.std.specs.Prelude.{ℕ, ◌+◌, ◌-◌, ◌*◌, Bool, false, cond, ◌&&◌, List, ltb, get_or, ℤ, pos}
use Rattle.std.specs.Prelude as std
use Rattle.std.specs.Prelude.{Some, None}
use Rattle.std.proofs.Math.Option.{Option, none, some}
use Rattle.model.specs.Lists.{range, all, eq_z}
use Rattle.model.specs.Settings.{props_per_row}

-- the property at place k of "0 to 14, 16 to 23, then 15"
unfoldable pub order_at : ℕ → ℕ
order_at k = cond (ltb k 15) k (cond (ltb k 23) (k + 1) 15)

-- how many properties are scored: 15, the last, only if weighted
abbrev pub order_count : Bool → ℕ
order_count weighted = cond weighted props_per_row 23

-- the model's twin, as the code hands it on
abbrev pub twin_is : std.Option ℕ → Option ℕ
twin_is (Some a) = some a
twin_is None = none

-- "equals it in each row": two properties of the rows first, first + 1, .., end - 1 in the flat list
unfoldable pub equal_columns : List ℤ → ℕ → ℕ → ℕ → ℕ → Bool
equal_columns ps first end a b = all (λ (row : ℕ). eq_z (get_or ps (row * props_per_row + a) (pos 0)) (get_or ps (row * props_per_row + b) (pos 0))) (range first (end - first))

-- whether a property repeats its twin: "was planned and equals it in each row"
abbrev pub repeats_in : List Bool → List ℤ → ℕ → ℕ → ℕ → Option ℕ → Bool
repeats_in planned ps first end q none = false
repeats_in planned ps first end q (some a) = get_or planned a false && equal_columns ps first end a q
