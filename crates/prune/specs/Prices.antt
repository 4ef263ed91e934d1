-- The pass from the last node back (document 01, "Pruning": a split becomes a leaf if its own cost is at most what its two sides come to).
-- Assumes nothing.
use Rattle.std.specs.Prelude.{ℕ, ◌≤◌, ◌<◌, ◌≡◌, Bool, true, false, cond, not, List, length, get_or, T, eqb, Float, Option, Some, None}
use Rattle.std.specs.Float.{nan, binary64}
use Rattle.std.specs.Float.Ieee.{add, le, is_nan}
use Rattle.model.specs.Meter.{Meter}
use Rattle.model.specs.Settings.{max_nodes}
use Rattle.model.specs.Single.{singles}
use Rattle.model.specs.Tree.{leaf, is_leaf}
use Rattle.model.specs.Grow.{Entry, no_entry}
use Rattle.model.specs.Prune.{no_priced, priced_from, pruned_nodes, pruned_bits}
use Rattle.layout.specs.Records.{no_record, kind_at, gt_at, le_at}
use Rattle.layout.specs.Tree.{entry_record}
use Rattle.layout.specs.declared.MaNode.{MaNode}
use Rattle.prune.specs.declared.Priced.{Priced}

-- a leaf's price is its own cost
abbrev pub leaf_priced : Float → Priced
leaf_priced cost = record { bits = cost; priced = cost }

-- a price to name where a list has none
abbrev pub no_price : Priced
no_price = record { bits = nan; priced = nan }

-- what a split's two sides come to with the price
abbrev pub kept_price : Priced → Priced → Float → Float
kept_price g l price = add binary64 (add binary64 g.priced l.priced) price

-- a split of this cost that stays one; none where it becomes a leaf
abbrev pub kept_split : Float → Priced → Priced → Float → Option Priced
kept_split cost g l price = cond (le cost (kept_price g l price)) None (Some (record { bits = add binary64 g.bits l.bits; priced = kept_price g l price }))

-- a node, with what stands in the list for its children, if it stays a split; none for one that becomes, or is, a leaf
abbrev pub split_priced : MaNode → Float → List Priced → Option Priced
split_priced m price prices = cond (eqb m.kind 1) (kept_split m.info.cost (get_or prices m.gt no_price) (get_or prices m.le no_price) price) None

-- a number that is none
abbrev pub IsNumber : Float → Type 0
IsNumber x = T (not (is_nan x))

-- a node and its children can be priced
pub record Priceable (m : MaNode) (price : Float) (prices : List Priced) : Type 0 where
  pub number : IsNumber m.info.cost
  pub price_number : IsNumber price
  pub children : eqb m.kind 1 ≡ true → (m.gt < length prices) × (m.le < length prices)

-- all nodes can be priced: children stand behind their split
pub record AllPriceable (nodes : List MaNode) (price : Float) (splits : List Bool) : Type 0 where
  pub some : 0 < length nodes
  pub few : length nodes ≤ max_nodes
  pub splits_there : length nodes ≤ length splits
  pub numbers : (i : ℕ) → i < length nodes → IsNumber (get_or nodes i no_record).info.cost
  pub price_number : IsNumber price
  pub children : (i : ℕ) → i < length nodes → eqb (kind_at nodes i) 1 ≡ true → (gt_at nodes i < length nodes) × (le_at nodes i < length nodes)

-- the records are those of the tree
pub record ShowsTree (tree : List (Entry singles)) (nodes : List MaNode) : Type 0 where
  pub many : length nodes ≡ length tree
  pub nodes_are : (i : ℕ) → i < length nodes → get_or nodes i no_record ≡ entry_record (get_or tree i no_entry)
  pub forward : (i : ℕ) → i < length nodes → eqb (kind_at nodes i) 1 ≡ true → (i < gt_at nodes i) × (i < le_at nodes i)

-- node i is priced
pub record IsPriced (price : Float) (tree : List (Entry singles)) (i : ℕ) (prices : List Priced) (splits : List Bool) : Type 0 where
  pub bits_are : (get_or prices i no_price).bits ≡ (get_or (priced_from {M = singles} price 0 tree) i no_priced).bits
  pub priced_are : (get_or prices i no_price).priced ≡ (get_or (priced_from {M = singles} price 0 tree) i no_priced).priced
  pub split_is : get_or splits i false ≡ not (is_leaf (get_or (priced_from {M = singles} price 0 tree) i no_priced).node)

-- all are: the surviving leaves' bits, and which nodes are splits
pub record PricedAs {M : Meter} (price : M.Cost) (tree : List (Entry M)) (bits : M.Total) (splits : List Bool) : Type 0 where
  pub bits_are : bits ≡ pruned_bits price tree
  pub splits_are : (i : ℕ) → i < length tree → get_or splits i false ≡ not (is_leaf (get_or (pruned_nodes price tree) i leaf))
