-- What is read of a list of records, place by place, and the tree of the first of them. Assumes nothing.
use mathlib.Core.Path.{◌≡◌, ap, ◌∙◌}
use Prim.Native.Nat.{ℕ, ◌<◌}
use mathlib.Core.List.{List, map, map-map}
use lib.ListN.{length, get_or, take}
use Rattle.std.proofs.lemmas.List.{length-map, get_or-map, take-map}
use Rattle.model.specs.Single.{singles}
use Rattle.model.specs.Tree.{leaf, Record, nodes_of}
use Rattle.model.specs.Lent.{record_in, tree_in}
use Rattle.layout.specs.Records.{stored_of, node_is, no_record}
use Rattle.layout.specs.declared.MaNode.{MaNode}
use Rattle.tree.specs.Trees.{records_in}

abbrev read : MaNode → Record singles
read m = record_in (stored_of m)

module _ (t : List MaNode) where
  pub records-length : length (records_in t) ≡ length t
  records-length = length-map t read

  pub record_at_lem : (i : ℕ) (d : Record singles) → i < length t → get_or (records_in t) i d ≡ record_in (stored_of (get_or t i no_record))
  record_at_lem i d h = get_or-map read t i no_record d h

  pub nodes-each : nodes_of (records_in t) ≡ map node_is t
  nodes-each = map-map (λ (r : Record singles). r.node) read t

  pub nodes-length : length (nodes_of (records_in t)) ≡ length t
  nodes-length = rw nodes-each (length-map t node_is)

  pub node_at_lem : (i : ℕ) → i < length t → get_or (nodes_of (records_in t)) i leaf ≡ node_is (get_or t i no_record)
  node_at_lem i h = rw nodes-each (get_or-map node_is t i no_record leaf h)

-- ---- the tree of the first nodes
pub tree-is : (nodes : List MaNode) (count : ℕ) → tree_in count (map stored_of nodes) ≡ records_in (take count nodes)
tree-is nodes count = ap (map record_in) (take-map stored_of count nodes) ∙ map-map record_in stored_of (take count nodes)
