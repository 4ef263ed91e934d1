-- Pruning (document 01, "Pruning"; the Rust's `prune_tree`). Assumes nothing.
use Rattle.std.specs.Prelude.{ℕ, zero, suc, ◌-◌, cond, List, [], ◌∷◌, map, length, get_or, eqb}
use Rattle.model.specs.Meter.{Meter}
use Rattle.model.specs.Tree.{Node, split, leaf, below}
use Rattle.model.specs.Grow.{Entry, no_entry}

-- ---- the new order: from the root, gt first
-- The nodes reached from node i, gt's before le's. `fuel` is at least the number of nodes from i on
unfoldable pub preorder : ℕ → List Node → ℕ → List ℕ
preorder zero nodes i = []
preorder (suc fuel) nodes i = i ∷ below (λ (c : ℕ). preorder fuel nodes c) (get_or nodes i leaf)

-- a node's new number is its place in the order
unfoldable pub place_of : ℕ → List ℕ → ℕ
place_of i [] = 0
place_of i (k ∷ ks) = let further = suc (place_of i ks) in cond (eqb i k) 0 further

abbrev pub renumbered : List ℕ → Node → Node
renumbered order (split prop val gt le) = split prop val (place_of gt order) (place_of le order)
renumbered order leaf = leaf

-- A node after the pass from the last node back: what it has become, the costs of the leaves under it, and these with a price for each kept split
pub record Priced (M : Meter) : Type 0 where
  pub node : Node
  pub bits : M.Total
  pub priced : M.Total

module _ {M : Meter} where
  abbrev pub no_priced : Priced M
  no_priced = record { node = leaf; bits = M.no_total; priced = M.no_total }

  -- a leaf's price is its own cost
  abbrev pub as_leaf : Entry M → Priced M
  as_leaf e = record { node = leaf; bits = M.total e.info.cost; priced = M.total e.info.cost }

  -- priced gt + priced le + price
  abbrev pub kept_price : M.Cost → Priced M → Priced M → M.Total
  kept_price price gt le = M.add (M.add gt.priced le.priced) (M.total price)

  -- a split becomes a leaf if its own cost is at most that
  abbrev pub decided : M.Cost → Entry M → Node → Priced M → Priced M → Priced M
  decided price e n gt le =
      cond (M.at_most (M.total e.info.cost) (kept_price price gt le))
      (as_leaf e)
      (record { node = n; bits = M.add gt.bits le.bits; priced = kept_price price gt le })

  -- node i, with the nodes after it
  abbrev pub priced_before : M.Cost → ℕ → Entry M → Node → List (Priced M) → Priced M
  priced_before price i e (split prop val gt le) after =
      decided price e (split prop val gt le) (get_or after (gt - suc i) no_priced) (get_or after (le - suc i) no_priced)
  priced_before price i e leaf after = as_leaf e

  -- from the last node back
  unfoldable pub priced_from : M.Cost → ℕ → List (Entry M) → List (Priced M)
  priced_from price i [] = []
  priced_from price i (e ∷ es) =
      let after = priced_from price (suc i) es in
      priced_before price i e e.node after ∷ after

  -- the entry of old node i, under its new number: records and spans go with the nodes
  unfoldable pub moved : List (Entry M) → List Node → List ℕ → ℕ → Entry M
  moved tree nodes order i =
      let e = get_or tree i no_entry in
      record { node = renumbered order (get_or nodes i leaf); info = e.info; span = e.span; depth = e.depth; offer = e.offer }

  -- what each node has become
  unfoldable pub pruned_nodes : M.Cost → List (Entry M) → List Node
  pruned_nodes price tree = map (λ (p : Priced M). p.node) (priced_from price 0 tree)

  unfoldable pub pruned_tree : M.Cost → List (Entry M) → List (Entry M)
  pruned_tree price tree =
      let nodes = pruned_nodes price tree in
      let order = preorder (length nodes) nodes 0 in
      map (moved tree nodes order) order

  -- the surviving leaves' costs without price, gt + le at each kept split
  unfoldable pub pruned_bits : M.Cost → List (Entry M) → M.Total
  pruned_bits price tree = (get_or (priced_from price 0 tree) 0 no_priced).bits
