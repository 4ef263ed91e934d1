-- How many symbols a sound tree has, by its number of nodes. Assumes nothing.
use mathlib.Core.Path.{◌≡◌}
use Prim.Native.Nat.{ℕ, ◌+◌, ◌-◌, ◌*◌, ◌/◌, ◌≤◌, ◌<◌}
use native.Mathlib.Omega.{arith}
use mathlib.Core.List.{List}
use lib.ListN.{length}
use Rattle.model.specs.Learn.{leaf_count}
use Rattle.model.specs.Tree.{nodes_of}
use Rattle.model.specs.Symbols.{symbols_of}
use Rattle.model.proofs.Tally.{tree-count}
use Rattle.model.proofs.SymbolCount.{symbols-count}
use Rattle.layout.specs.declared.MaNode.{MaNode}
use Rattle.tree.specs.Trees.{records_in, IsSound}
use Rattle.tree.proofs.Entries.{nodes-length}
use Rattle.tree.proofs.Soundness.{all_sound, some_nodes}

module _ (t : List MaNode) (is : IsSound t) where
  by_nodes : length t + 1 ≡ 2 * leaf_count (nodes_of (records_in t))
  by_nodes =
      let some : 0 < length (nodes_of (records_in t)) = rw (nodes-length t) (some_nodes t is).0 in
      rw (nodes-length t) at (tree-count (nodes_of (records_in t)) (all_sound t is).rooted some)

  pub few_symbols : length (symbols_of (records_in t)) < 4294967296
  few_symbols = omega (arith, by_nodes, symbols-count (records_in t) is, (some_nodes t is).1)

  module _ (leaves : ℕ) (e : leaves ≡ (length t + 1) / 2) where
    pub some_leaves : 1 ≤ leaves
    some_leaves = omega (arith, e, (some_nodes t is).0)

    pub counted : 2 * (leaves - 1) + 5 * leaves ≡ length (symbols_of (records_in t))
    counted = omega (arith, e, by_nodes, symbols-count (records_in t) is, (some_nodes t is).0)
