-- The entries in the new order (document 01, "Pruning": records and spans with the nodes; entries vacated by pruning are blank). Assumes nothing.
use Rattle.std.specs.Prelude.{ℕ, ◌-◌, ◌≤◌, ◌<◌, ◌≡◌, Bool, true, false, cond, List, ◌++◌, map, length, get_or, replicate}
use Rattle.std.proofs.Math.Option.{none}
use Rattle.model.specs.Settings.{max_nodes}
use Rattle.model.specs.Single.{singles}
use Rattle.model.specs.Tree.{Node, split, leaf}
use Rattle.model.specs.Lent.{Stored, stored_node}
use Rattle.model.specs.Grow.{Entry, no_entry}
use Rattle.layout.specs.Tree.{NodeLists, HasRoom, info_at, depth_at}
use Rattle.layout.specs.Values.{info_is}
use Rattle.layout.specs.Records.{stored_of, record_of, no_record, gt_at, le_at, span_is, no_span_record}
use Rattle.layout.specs.declared.MaNode.{MaNode}

-- a split that is kept, with its children's new numbers; or else a leaf
abbrev pub node_from : Stored singles → Bool → List ℕ → Node
node_from m kept places = cond kept (split m.prop m.val (get_or places m.gt 0) (get_or places m.le 0)) leaf

-- its record: what stands beside it and its depth stay
abbrev pub record_from : MaNode → Bool → List ℕ → MaNode
record_from m kept places = record_of (stored_node (node_from (stored_of m) kept places) (info_is m.info) m.depth)

-- the entry of old number i; the node lists do not know what it offers
abbrev pub entry_from : NodeLists → Bool → List ℕ → ℕ → Entry singles
entry_from x kept places i =
    record {
      node = node_from (stored_of (get_or x.nodes i no_record)) kept places;
      info = info_at x i;
      span = span_is (get_or x.spans i no_span_record);
      depth = depth_at x i;
      offer = none;
    }

-- the entries of these old numbers
unfoldable pub entries_from : NodeLists → List Bool → List ℕ → List ℕ → List (Entry singles)
entries_from x splits places order = map (λ (i : ℕ). entry_from x (get_or splits i false) places i) order

-- and blank ones behind them, as many as are vacated
abbrev pub compacted : NodeLists → List Bool → List ℕ → List ℕ → List (Entry singles)
compacted x splits places order = entries_from x splits places order ++ replicate (length splits - length order) no_entry

-- the nodes of the new order can be moved: each was a node of the tree, of whose nodes `splits` speaks
pub record AllMovable (x : NodeLists) (splits : List Bool) (order places : List ℕ) : Type 0 where
  pub few : length order ≤ length splits
  pub most : length splits ≤ max_nodes
  pub room : HasRoom (length splits) x
  pub old : (q : ℕ) → q < length order → get_or order q 0 < length splits
  pub children : (i : ℕ) → i < length splits → get_or splits i false ≡ true → (gt_at x.nodes i < length places) × (le_at x.nodes i < length places)
