-- A seed's rows in the order of its leaves, and its leaves' spans beside its words (document 01, "Deepening": rows ordered by leaf number, stably).
-- Assumes nothing.
use Rattle.std.specs.Prelude.{ℕ, suc, ◌+◌, ◌*◌, ◌≤◌, ◌<◌, ◌≡◌, List, map, length, get_or, drop, replicate}
use Rattle.std.proofs.Math.Option.{none}
use Rattle.model.specs.Settings.{max_rows}
use Rattle.model.specs.Single.{singles}
use Rattle.model.specs.Rows.{Row}
use Rattle.model.specs.Tree.{Record, nodes_of, fault_of, Node}
use Rattle.model.specs.Lent.{tree_in}
use Rattle.layout.specs.Records.{stored_of, span_is, no_span_record}
use Rattle.layout.specs.declared.MaNode.{MaNode}
use Rattle.layout.specs.declared.Span.{Span}
use Rattle.layout.specs.Tree.{NodeLists, HasRoom}
use Rattle.order.specs.Order.{ordered_by, first_of}
use Rattle.order.specs.Leaves.{leaf_numbers}
use Rattle.rows.specs.Cells.{span}
use Rattle.rows.specs.Flat.{Flat, held_in, row_count, Shaped, SameSize}

abbrev pub seed_of : ℕ → List MaNode → List (Record singles)
seed_of count nodes = tree_in count (map stored_of nodes)

-- the seed: the first nodes of the node lists
abbrev pub seed_in : ℕ → NodeLists → List (Record singles)
seed_in count n = seed_of count n.nodes

abbrev pub nodes_in : ℕ → NodeLists → List Node
nodes_in count n = nodes_of (seed_in count n)

-- the number of the leaf that each row reaches
abbrev pub numbers_in : ℕ → NodeLists → List Row → List ℕ
numbers_in count n rows = leaf_numbers (nodes_in count n) rows

-- a sound seed with its rows, and a place for the number of each
pub record Numberable (x : Flat) (nodes : List MaNode) (count : ℕ) (numbers : List ℕ) : Type 0 where
  pub shaped : Shaped x
  pub sound : fault_of (seed_of count nodes) ≡ none
  pub there : count ≤ length nodes
  pub places : length numbers ≡ row_count x

-- as many first rows as ends, and a place for each span
pub record Paired (firsts ends : List ℕ) (spans : List Span) : Type 0 where
  pub many : length ends ≡ length firsts
  pub places : length firsts ≤ length spans

-- they stand in pairs, as spans; what lies past them is unchanged
pub record Pairs (firsts ends : List ℕ) (spans spans' : List Span) : Type 0 where
  pub long : length spans' ≡ length spans
  pub rest : drop (length firsts) spans' ≡ drop (length firsts) spans
  pub pair : (i : ℕ) → i < length firsts → get_or spans' i no_span_record ≡ record { first = get_or firsts i 0; end = get_or ends i 0 }

-- a sound seed with its rows, and room to order the rows in: count space that is all 0
pub record Orderable (x : Flat) (n : NodeLists) (counts : List ℕ) (count : ℕ) : Type 0 where
  pub shaped : Shaped x
  pub few : row_count x ≤ max_rows
  pub sound : fault_of (seed_in count n) ≡ none
  pub room : HasRoom count n
  pub space : row_count x + 2 * count ≤ length counts
  pub zeros : counts ≡ replicate (length counts) 0

-- beside the first nodes stand the spans of the rows with number 0, 1, ..; the nodes are as they were, and so is what lies past them
pub record SpansOf (numbers : List ℕ) (count : ℕ) (n n' : NodeLists) : Type 0 where
  pub nodes : n'.nodes ≡ n.nodes
  pub long : length n'.spans ≡ length n.spans
  pub there : (i : ℕ) → i < count → span_is (get_or n'.spans i no_span_record) ≡ span (first_of numbers i) (first_of numbers (suc i))
  pub rest : drop count n'.spans ≡ drop count n.spans

-- y has the rows of x, ordered by their numbers
pub record OrderedBy (numbers : List ℕ) (count : ℕ) (x y : Flat) (n n' : NodeLists) : Type 0 where
  pub rows : held_in y ≡ ordered_by numbers count (held_in x)
  pub size : SameSize x y
  pub spans_are : SpansOf numbers count n n'
