-- What learning makes of its rows (document 01, "The learner, leaves first"; the Rust's `learn_ma_tree_in_place`). Assumes nothing.
use Rattle.std.specs.Prelude.{ℕ, ◌-◌, cond, List, [], ◌∷◌, ◌++◌, map, length, replicate}
use Rattle.model.specs.Lists.{count_if}
use Rattle.model.specs.Meter.{Meter}
use Rattle.model.specs.Rows.{Row, Span}
use Rattle.model.specs.Mode.{span_mode, fresh}
use Rattle.model.specs.Tree.{Node, is_leaf, Record}
use Rattle.model.specs.Job.{Job, prunes}
use Rattle.model.specs.Grow.{Entry, State, no_entry, tree_nodes, record_of, leaf_over, steps}
use Rattle.model.specs.Prune.{pruned_tree, pruned_bits}
use Rattle.model.specs.Settle.{settled}

unfoldable pub leaf_count : List Node → ℕ
leaf_count nodes = count_if is_leaf nodes

-- `records` and `spans` are the entries written, vacated ones included, of which the first `count` are the tree's
pub record Result (M : Meter) : Type 0 where
  pub rows : List Row
  pub records : List (Record M)
  pub spans : List Span
  pub count : ℕ
  pub leaves : ℕ
  pub bits : M.Total
  pub flat : M.Total

module _ {M : Meter} where
  -- of a grown and perhaps pruned tree; `written` is how many entries were written while it grew
  unfoldable pub result_of : State M → ℕ → M.Total → Result M
  result_of s written flat =
      let es = s.tree ++ replicate (written - length s.tree) no_entry in
      record {
        rows = s.rows;
        records = map record_of es;
        spans = map (λ (e : Entry M). e.span) es;
        count = length s.tree;
        leaves = leaf_count (tree_nodes s.tree);
        bits = s.bits;
        flat = flat;
      }

  -- pruning, if the price is above 0
  unfoldable pub pruned : Job M → State M → State M
  pruned j s =
      let cut : State M = record { rows = s.rows; tree = pruned_tree j.price s.tree; bits = pruned_bits j.price s.tree } in
      cond (prunes j) cut s

  -- settling, if it is asked for
  unfoldable pub settled_state : Job M → State M → State M
  settled_state j s =
      let done : State M = record { rows = settled j.uses s.tree s.rows; tree = s.tree; bits = s.bits } in
      cond j.settling done s

  unfoldable pub finished : Job M → State M → M.Total → Result M
  finished j s flat = result_of (settled_state j (pruned j s)) (length s.tree) flat

  -- one leaf over all rows
  unfoldable pub root_state : Job M → List Row → State M
  root_state j rows =
      let fr = fresh j.uses rows in
      let root = leaf_over j fr (span_mode j.uses rows) (record { first = 0; end = length rows }) 0 in
      record { rows = fr; tree = root ∷ []; bits = M.total root.info.cost }

  -- while leaves < limit: limit - 1 steps from one leaf
  unfoldable pub learned : Job M → ℕ → List Row → Result M
  learned j limit rows = finished j (steps j (limit - 1) (root_state j rows)) (j.flat rows)
