-- The mode step on each leaf's span, on the rows' lists (document 01, "Pruning": settling repeats the mode step on each leaf's span). Assumes nothing.
use Rattle.std.specs.Prelude.{ℕ, ◌≤◌, ◌<◌, ◌≡◌, false, cond, List, [], ◌∷◌, length, get_or, T, eqb}
use Rattle.model.specs.Settings.{max_rows}
use Rattle.model.specs.Single.{singles}
use Rattle.model.specs.Tree.{is_leaf}
use Rattle.model.specs.Grow.{Entry, no_entry}
use Rattle.layout.specs.Records.{no_record, no_span_record, kind_at}
use Rattle.layout.specs.Tree.{NodeLists, holding, HasRoom}
use Rattle.layout.specs.declared.MaNode.{MaNode}
use Rattle.layout.specs.declared.Span.{Span}
use Rattle.mode.specs.Column.{tokens_at}
use Rattle.mode.specs.Lent.{Rebasable}
use Rattle.rows.specs.Flat.{Flat, flat, row_count, Shaped}

-- the rows' lists after the step on a span
abbrev pub stepped : Flat → Span → Flat
stepped x s = flat x.props (tokens_at s.first s.end x.res x.toks) x.res

-- after the step on a node, if it is a leaf
abbrev pub leaf_settled : Flat → MaNode → Span → Flat
leaf_settled x m s = cond (eqb m.kind 1) x (stepped x s)

-- after the steps on these nodes, each with its span
unfoldable pub leaves_settled : List MaNode → List Span → Flat → Flat
leaves_settled [] ss x = x
leaves_settled (m ∷ ms) [] x = x
leaves_settled (m ∷ ms) (s ∷ ss) x = leaves_settled ms ss (leaf_settled x m s)

-- the rows of the node are there, if it is a leaf
pub record LeafSettles (m : MaNode) (s : Span) (x : Flat) (counts : List ℕ) : Type 0 where
  pub rows : eqb m.kind 1 ≡ false → Rebasable x.toks x.res s.first s.end counts

-- all `count` nodes are there, and so are their rows
pub record Settleable (n : NodeLists) (count : ℕ) (x : Flat) (counts : List ℕ) : Type 0 where
  pub room : HasRoom count n
  pub rows : (i : ℕ) → i < count → eqb (get_or n.nodes i no_record).kind 1 ≡ false
      → Rebasable x.toks x.res (get_or n.spans i no_span_record).first (get_or n.spans i no_span_record).end counts

-- the first records and spans are of the tree's kinds and spans, as lists that hold it over those lent have them, and the leaves' spans lie in the rows
pub record HoldsLeaves (n : NodeLists) (count : ℕ) (x : Flat) (tree : List (Entry singles)) (lent : NodeLists) : Type 0 where
  pub kinds : (k : ℕ) → k < length tree → kind_at n.nodes k ≡ kind_at (holding tree lent).nodes k
  pub spans : (k : ℕ) → k < length tree → get_or n.spans k no_span_record ≡ get_or (holding tree lent).spans k no_span_record
  pub room : HasRoom (length tree) lent
  pub many : count ≡ length tree
  pub shaped : Shaped x
  pub few : row_count x ≤ max_rows
  pub given : 0 < length x.res
  pub inside : (k : ℕ) → k < length tree → T (is_leaf (get_or tree k no_entry).node)
      → ((get_or tree k no_entry).span.first ≤ (get_or tree k no_entry).span.end) × ((get_or tree k no_entry).span.end ≤ row_count x)
