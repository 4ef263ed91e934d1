-- A caller's nodes and spans, lent together. Assumes nothing.
use Rattle.std.specs.Prelude.{◌≡◌}
use Rattle.layout.specs.Tree.{NodeLists, node_lists}
use Rattle.layout.specs.declared.Nodes.{Nodes}

-- what the lent lists hold
abbrev pub lists_in : Nodes → NodeLists
lists_in x = node_lists x.nodes.now x.spans.now

-- the same lists are lent
pub record SameNodesLent (x y : Nodes) : Type 0 where
  pub nodes : y.nodes.ghost_name ≡ x.nodes.ghost_name
  pub spans : y.spans.ghost_name ≡ x.spans.ghost_name
