-- The leaves that rows reach (document 01, "Deepening"; the Rust's `leaf_for_sample`). Assumes nothing.
use Rattle.std.specs.Prelude.{ℕ, List, map}
use Rattle.model.specs.Rows.{Row}
use Rattle.model.specs.Tree.{Node, leaf_reached}

-- the number of the leaf that each row reaches
unfoldable pub leaf_numbers : List Node → List Row → List ℕ
leaf_numbers nodes rows = map (λ (r : Row). leaf_reached nodes r.props) rows
