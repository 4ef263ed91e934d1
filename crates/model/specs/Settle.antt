-- Settling (document 01, "Pruning": settling repeats the mode step on each leaf's span). Assumes nothing.
use Rattle.std.specs.Prelude.{Bool, cond, List, [], ◌∷◌, ◌++◌, take, drop}
use Rattle.model.specs.Meter.{Meter}
use Rattle.model.specs.Rows.{Row, within}
use Rattle.model.specs.Mode.{fresh}
use Rattle.model.specs.Tree.{is_leaf}
use Rattle.model.specs.Grow.{Entry}

unfoldable pub settled : {M : Meter} → Bool → List (Entry M) → List Row → List Row
settled uses [] rows = rows
settled uses (e ∷ es) rows =
    let s = e.span in
    settled uses es (cond (is_leaf e.node) (take s.first rows ++ fresh uses (within s rows) ++ drop s.end rows) rows)
