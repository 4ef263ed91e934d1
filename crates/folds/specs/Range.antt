-- The lowest and the highest entry. Assumes nothing.
use Rattle.std.specs.Prelude.{Bool, cond, List, [], ◌∷◌}
use Rattle.std.specs.Ordering.{is_lt}
use Rattle.std.specs.declared.cmp.Ordering.{Ordering}

-- by a comparison's answer
abbrev pub less_by : {A : Type 0} → (A → A → Ordering) → A → A → Bool
less_by cmp x y = is_lt (cmp x y)

-- the lowest of v and the others
unfoldable pub lowest : {A : Type 0} → (A → A → Bool) → A → List A → A
lowest less v [] = v
lowest less v (w ∷ ws) = lowest less (cond (less w v) w v) ws

-- the highest of v and the others
unfoldable pub highest : {A : Type 0} → (A → A → Bool) → A → List A → A
highest less v [] = v
highest less v (w ∷ ws) = highest less (cond (less v w) w v) ws
