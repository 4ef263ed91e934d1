-- Lists that hold a tree to be pruned, and what pruning leaves in them. Assumes nothing.
use Rattle.std.specs.Prelude.{ℕ, ◌-◌, ◌≤◌, ◌<◌, ◌≡◌, List, ◌++◌, length, get_or, replicate, Float}
use Rattle.model.specs.Meter.{Meter}
use Rattle.model.specs.Settings.{max_nodes}
use Rattle.model.specs.Single.{singles}
use Rattle.model.specs.Grow.{Entry, no_entry, tree_nodes}
use Rattle.model.specs.Prune.{pruned_tree, pruned_bits}
use Rattle.model.specs.Family.{Family}
use Rattle.layout.specs.declared.Tree.{Tree}
use Rattle.layout.specs.Tree.{NodeLists, holding, HasRoom}
use Rattle.prune.specs.Prices.{IsNumber}

-- the lists hold the tree, over those lent; its costs and the price are such as can be compared
pub record HoldsTree (x : NodeLists) (count : ℕ) (price : Float) (tree : List (Entry singles)) (lent : NodeLists) : Type 0 where
  pub lists : x ≡ holding tree lent
  pub room : HasRoom (length tree) lent
  pub many : count ≡ length tree
  pub some : 0 < count
  pub few : count ≤ max_nodes
  pub family : Family (tree_nodes tree)
  pub numbers : (i : ℕ) → i < count → IsNumber (get_or tree i no_entry).info.cost
  pub price_number : IsNumber price

-- they hold some tree
pub record Prunable (x : NodeLists) (count : ℕ) (price : Float) : Type 0 where
  pub tree : List (Entry singles)
  pub lent : NodeLists
  pub holds : HoldsTree x count price tree lent

-- the pruned tree, then the entries that it vacated
abbrev pub pruned_entries : {M : Meter} → M.Cost → List (Entry M) → List (Entry M)
pruned_entries price tree = pruned_tree price tree ++ replicate (length tree - length (pruned_tree price tree)) no_entry

-- what pruning leaves in the lists, and what it answers: how many nodes there are, and the bits
pub record PrunedAs (price : Float) (tree : List (Entry singles)) (lent y : NodeLists) (r : Tree) : Type 0 where
  pub lists : y ≡ holding (pruned_entries {M = singles} price tree) lent
  pub nodes : r.nodes ≡ length (pruned_tree {M = singles} price tree)
  pub bits : r.bits ≡ pruned_bits {M = singles} price tree
