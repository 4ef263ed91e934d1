-- What deepening makes of a sound seed and its rows (document 01, "Deepening"; the Rust's `deepen_ma_tree`). Assumes nothing.
use Rattle.std.specs.Prelude.{ℕ, suc, ◌+◌, ◌-◌, List, [], ◌∷◌, ◌++◌, length, pos, eqb}
use Rattle.std.proofs.Math.Option.{none}
use Rattle.model.specs.Lists.{keep}
use Rattle.model.specs.Meter.{Meter}
use Rattle.model.specs.Rows.{Row, no_span}
use Rattle.model.specs.Mode.{span_mode, fresh}
use Rattle.model.specs.Tree.{Node, split, leaf, Info, Record, nodes_of, leaf_reached}
use Rattle.model.specs.Job.{Job}
use Rattle.model.specs.Grow.{Entry, State, leaf_over, steps}
use Rattle.model.specs.Learn.{Result, leaf_count, finished}

-- the rows, in their order, whose lookup reaches node i
unfoldable pub rows_at : List Node → ℕ → List Row → List Row
rows_at nodes i rows = keep (λ (r : Row). eqb (leaf_reached nodes r.props) i) rows

module _ {M : Meter} where
  -- a seed's split has infinite cost, recorded predictor and offset 0, span (0, 0)
  abbrev pub seed_split : Node → ℕ → Entry M
  seed_split n depth = record { node = n; info = record { cost = M.endless; pred = 0; offset = pos 0 }; span = no_span; depth = depth; offer = none }

  -- an empty leaf keeps predictor and offset, cost 0, span (0, 0)
  abbrev pub empty_leaf : Info M → ℕ → Entry M
  empty_leaf i depth = record { node = leaf; info = record { cost = M.nought; pred = i.pred; offset = i.offset }; span = no_span; depth = depth; offer = none }

  -- a seed's node that no row reaches
  abbrev pub rowless : Node → Info M → ℕ → Entry M
  rowless (split prop val gt le) i depth = seed_split (split prop val gt le) depth
  rowless leaf i depth = empty_leaf i depth

  -- a seed's leaf with its rows, which start at row `first`
  abbrev pub seed_leaf : Job M → Info M → ℕ → ℕ → List Row → Entry M
  seed_leaf j i depth first [] = empty_leaf i depth
  seed_leaf j i depth first (r ∷ rs) =
      leaf_over j (fresh j.uses (r ∷ rs)) (span_mode j.uses (r ∷ rs)) (record { first = first; end = first + length (r ∷ rs) }) depth

  -- leaves with rows add their cost
  abbrev pub with_leaf_cost : M.Total → Entry M → List Row → M.Total
  with_leaf_cost bits e [] = bits
  with_leaf_cost bits e (r ∷ rs) = M.add bits (M.total e.info.cost)

  -- one node more, at the depth that it stores, with the rows that reach it
  abbrev pub with_seed_node : Job M → Node → Info M → ℕ → List Row → State M → State M
  with_seed_node j (split prop val gt le) i depth mine s =
      record { rows = s.rows; tree = s.tree ++ (seed_split (split prop val gt le) depth ∷ []); bits = s.bits }
  with_seed_node j leaf i depth mine s =
      let e = seed_leaf j i depth (length s.rows) mine in
      record { rows = s.rows ++ fresh j.uses mine; tree = s.tree ++ (e ∷ []); bits = with_leaf_cost s.bits e mine }

  -- the state after nodes i, i + 1, ..: rows ordered by leaf number, stably, each leaf's with its own mode's tokens
  unfoldable pub seed_from : Job M → List Node → List Row → ℕ → List (Record M) → State M → State M
  seed_from j nodes rows i [] s = s
  seed_from j nodes rows i (r ∷ rs) s = seed_from j nodes rows (suc i) rs (with_seed_node j r.node r.info r.depth (rows_at nodes i rows) s)

  -- estimated bits start at 0
  unfoldable pub seed_state : Job M → List (Record M) → List Row → State M
  seed_state j seed rows = seed_from j (nodes_of seed) rows 0 seed (record { rows = []; tree = []; bits = M.no_total })

  -- while leaves < limit, from the seed's leaves
  unfoldable pub deepened : Job M → ℕ → List (Record M) → List Row → Result M
  deepened j limit seed rows = finished j (steps j (limit - leaf_count (nodes_of seed)) (seed_state j seed rows)) (j.flat rows)
