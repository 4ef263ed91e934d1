-- Trees as lists of records: what the functions on them ask for. Assumes nothing.
use Rattle.std.specs.Prelude.{ℕ, suc, ◌+◌, ◌*◌, ◌≤◌, ◌<◌, ◌≡◌, Bool, true, cond, not, ◌&&◌, List, map, length, get_or, ℤ, eqb}
use Rattle.std.proofs.Math.Option.{none}
use Rattle.model.specs.Lists.{count_if}
use Rattle.model.specs.Settings.{props_per_row, max_nodes}
use Rattle.model.specs.Rows.{Row}
use Rattle.model.specs.Single.{singles}
use Rattle.model.specs.Tree.{Record, nodes_of, leaf_reached, is_orderly, has_child, has_two_children, fault_of}
use Rattle.model.specs.Lent.{record_in}
use Rattle.layout.specs.Records.{stored_of, node_is, no_record}
use Rattle.layout.specs.declared.MaNode.{MaNode}

-- what is read of a list of records: a node each, what stands beside it, and its depth
abbrev pub records_in : List MaNode → List (Record singles)
records_in tree = map (λ (m : MaNode). record_in (stored_of m)) tree

-- node i, with such a count of its parents, is not at fault
abbrev pub is_fine_in : ℕ → ℕ → ℕ → MaNode → Bool
is_fine_in count i parents m =
    is_orderly count i m.info.pred (node_is m) && (has_two_children (node_is m) && cond (eqb i 0) (eqb m.depth 0) (eqb parents 1))

-- the records are a sound tree (document 01, 8 of deepening)
abbrev pub IsSound : List MaNode → Type 0
IsSound tree = fault_of (records_in tree) ≡ none

-- ---- lookup
-- a sound tree, and the properties of one row
pub record Routable (tree : List MaNode) (props : List ℤ) : Type 0 where
  pub sound : IsSound tree
  pub one_row : length props ≡ props_per_row

-- the leaf that each row reaches (document 01, "Deepening": rows ordered by leaf number)
abbrev pub leaf_numbers : List (Record singles) → List Row → List ℕ
leaf_numbers tree rows = map (λ (r : Row). leaf_reached (nodes_of tree) r.props) rows

-- the same with the properties of all rows, and a place for each row's leaf
pub record AllRoutable (tree : List MaNode) (props : List ℤ) (number : List ℕ) : Type 0 where
  pub sound : IsSound tree
  pub rows : length props ≡ length number * props_per_row

-- ---- soundness
-- each number is at most `most`
abbrev pub AtMost : ℕ → List ℕ → Type 0
AtMost most l = (k : ℕ) → k < length l → get_or l k 0 ≤ most

-- At one pass. Node i was passed: it is in order, and has two children of its own, since neither was due before. They are due one deeper than it
pub record Passed (m : MaNode) (i : ℕ) (old new : List ℕ) : Type 0 where
  pub orderly : is_orderly (length old) i m.info.pred (node_is m) ≡ true
  pub two : has_two_children (node_is m) ≡ true
  pub own : (k : ℕ) → has_child k (node_is m) ≡ true → get_or old k 0 ≡ 0
  pub lower : (k : ℕ) → k < length old → get_or new k 0 ≡ cond (has_child k (node_is m)) (get_or old i 0 + 1) (get_or old k 0)

-- By counts. What a parent of node k counts: 1 if the node lies one deeper than it, else 2
abbrev pub weight : List MaNode → ℕ → MaNode → ℕ
weight tree k m = cond (eqb (get_or tree k no_record).depth (suc m.depth)) 1 2

-- node k is a child of this node, and doesn't lie one deeper
abbrev pub is_misplaced : List MaNode → ℕ → MaNode → Bool
is_misplaced tree k m = has_child k (node_is m) && not (eqb (get_or tree k no_record).depth (suc m.depth))

-- how many of these nodes each place is a child of, and once more those that it doesn't lie one deeper than
abbrev pub CountsParents : List MaNode → List MaNode → List ℕ → Type 0
CountsParents tree passed parents = (k : ℕ) → k < length parents
    → get_or parents k 0 ≡ count_if (λ (m : MaNode). has_child k (node_is m)) passed + count_if (is_misplaced tree k) passed

-- the parents of each node were counted, each by its weight
pub record Counted (tree : List MaNode) (parents : List ℕ) : Type 0 where
  pub few : length tree ≤ max_nodes
  pub places : length parents ≡ length tree
  pub counts : CountsParents tree tree parents
