-- How a node list and its spans hold a tree that grows: a record and a span a node, written over what was lent. What a leaf offers stands in the queue alone. Assumes nothing.
use Rattle.std.specs.Prelude.{ℕ, ◌+◌, ◌≤◌, List, map, length, get_or, set, ℤ}
use Rattle.std.proofs.Math.Option.{none}
use Rattle.model.specs.Lists.{written_over}
use Rattle.model.specs.Meter.{Meter}
use Rattle.model.specs.Single.{singles}
use Rattle.model.specs.Tree.{leaf, Info}
use Rattle.model.specs.Lent.{stored_node}
use Rattle.model.specs.Grow.{Entry}
use Rattle.layout.specs.Values.{info_is}
use Rattle.layout.specs.Records.{record_of, span_record, no_record}
use Rattle.layout.specs.declared.NodeInfo.{NodeInfo}
use Rattle.layout.specs.declared.MaNode.{MaNode}
use Rattle.layout.specs.declared.Span.{Span}

-- the two lists
pub record NodeLists : Type 0 where
  pub nodes : List MaNode
  pub spans : List Span

abbrev pub node_lists : List MaNode → List Span → NodeLists
node_lists nodes spans = record { nodes = nodes; spans = spans }

-- an entry's record, and its span
abbrev pub entry_record : Entry singles → MaNode
entry_record e = record_of (stored_node e.node e.info e.depth)

abbrev pub entry_span : Entry singles → Span
entry_span e = span_record e.span

-- lists that hold the tree, over those lent
unfoldable pub holding : List (Entry singles) → NodeLists → NodeLists
holding tree lent = node_lists (written_over (map entry_record tree) lent.nodes) (written_over (map entry_span tree) lent.spans)

-- there is room for n nodes
pub record HasRoom (n : ℕ) (x : NodeLists) : Type 0 where
  pub nodes : n ≤ length x.nodes
  pub spans : n ≤ length x.spans

-- the lists with entry i written
unfoldable pub put : ℕ → Entry singles → NodeLists → NodeLists
put i e x = node_lists (set x.nodes i (entry_record e)) (set x.spans i (entry_span e))

-- what stands beside node i
abbrev pub info_at : NodeLists → ℕ → Info singles
info_at x i = info_is (get_or x.nodes i no_record).info

-- the depth that it stores
abbrev pub depth_at : NodeLists → ℕ → ℕ
depth_at x i = (get_or x.nodes i no_record).depth

-- a leaf as the node lists have it: what stands beside it, its span and its depth
abbrev pub leaf_beside : {M : Meter} → Info M → ℕ → ℕ → ℕ → Entry M
leaf_beside i first end depth = record { node = leaf; info = i; span = record { first = first; end = end }; depth = depth; offer = none }

abbrev pub leaf_with : NodeInfo → ℕ → ℕ → ℕ → Entry singles
leaf_with i first end depth = leaf_beside (info_is i) first end depth

-- a split's record, whose children stand side by side, gt first; what stands beside it and its depth are those of the node that it was
abbrev pub split_record : ℕ → ℤ → ℕ → MaNode → MaNode
split_record prop val gt was = record { kind = 1; prop = prop; val = val; gt = gt; le = gt + 1; info = was.info; depth = was.depth }

-- the lists with node i made a split: what stands beside it, its depth and its span stay
abbrev pub put_split : ℕ → ℕ → ℤ → ℕ → NodeLists → NodeLists
put_split i prop val gt x = node_lists (set x.nodes i (split_record prop val gt (get_or x.nodes i no_record))) x.spans
