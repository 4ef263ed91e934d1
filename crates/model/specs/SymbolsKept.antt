-- What writing a tree as symbols and reading symbols keep (document 02, c and d), said of runs of the operations. Assumes nothing.
use Rattle.std.specs.Prelude.{◌≡◌, ℕ, ◌≤◌, ◌<◌, List, map, length, get_or, take, replicate, ℤ, pos}
use Rattle.std.proofs.Math.Option.{none}
use Rattle.model.specs.Lists.{range, written_over}
use Rattle.model.specs.Meter.{Meter}
use Rattle.model.specs.Settings.{props_per_row}
use Rattle.model.specs.Tree.{split, leaf, Record, blank_record, nodes_of, fault_of}
use Rattle.model.specs.Prune.{place_of}
use Rattle.model.specs.Contexts.{breadth_order}
use Rattle.model.specs.Symbols.{rowless_record, breadth_tree}
use Rattle.model.specs.Lent.{Stored, stored, tree_in}
use Rattle.model.specs.Operations.{accepted, Found, lookup, ContextLists, leaf_contexts, SymbolLists, write_symbols, read_symbols}
use Rattle.model.specs.declared.Symbol.{Symbol}

module _ {M : Meter} where
  -- node i of the tree of the first `count` entries
  abbrev pub node_in : ℕ → List (Stored M) → ℕ → Record M
  node_in count nodes i = get_or (tree_in count nodes) i blank_record

  -- its place in the order in which a breadth-first walk visits the nodes, gt before le
  abbrev pub number_in : ℕ → List (Stored M) → ℕ → ℕ
  number_in count nodes i = place_of i (breadth_order (nodes_of (tree_in count nodes)))

  -- ---- a tree of `count` nodes, at the front of `nodes`, and what is read of its symbols, at the front of z
  -- any 24 properties lead a lookup in each to a leaf: it is the same one, under its new number
  pub record SameLeaf (count : ℕ) (nodes z : List (Stored M)) (ps : List ℤ) : Type 0 where
    pub old : Found
    pub found : lookup nodes count ps ≡ accepted old
    pub new : Found
    pub found_again : lookup z count ps ≡ accepted new
    pub number : new.leaf ≡ number_in count nodes old.leaf
    -- the same predictor, the same offset, and in any two context lists that the operation writes for the two trees the same context
    pub predictor : new.pred ≡ old.pred
    pub offset : (node_in count z new.leaf).info.offset ≡ (node_in count nodes old.leaf).info.offset
    pub context : (a b c d : ContextLists) (leaves again : ℕ)
        → leaf_contexts nodes count a ≡ record { outcome = accepted leaves; lent = b }
        → leaf_contexts z count c ≡ record { outcome = accepted again; lent = d }
        → get_or d.contexts new.leaf 0 ≡ get_or b.contexts old.leaf 0

  -- the tree renumbered breadth first, with a rowless seed's records
  pub record ReadAgain (count : ℕ) (nodes z : List (Stored M)) : Type 0 where
    pub tree : tree_in count z ≡ breadth_tree (tree_in count nodes)
    pub sound : fault_of (tree_in count z) ≡ none
    -- each node has its number, and no two have one
    pub root : number_in count nodes 0 ≡ 0
    pub inside : (i : ℕ) → i < count → number_in count nodes i < count
    pub apart : (i k : ℕ) → i < count → k < count → number_in count nodes i ≡ number_in count nodes k → i ≡ k
    -- a split is there a split on the same property and value, to the same children, with infinite cost, predictor 0 and offset 0, at its depth
    pub splits : (i prop : ℕ) (val : ℤ) (gt le : ℕ) → i < count → (node_in count nodes i).node ≡ split prop val gt le
        → node_in count z (number_in count nodes i) ≡ record {
          node = split prop val (number_in count nodes gt) (number_in count nodes le);
          info = record { cost = M.endless; pred = 0; offset = pos 0 };
          depth = (node_in count nodes i).depth;
        }
    -- a leaf is a leaf with the same predictor and offset, and cost 0, at its depth
    pub leaves : (i : ℕ) → i < count → (node_in count nodes i).node ≡ leaf
        → node_in count z (number_in count nodes i) ≡ record {
          node = leaf;
          info = record { cost = M.nought; pred = (node_in count nodes i).info.pred; offset = (node_in count nodes i).info.offset };
          depth = (node_in count nodes i).depth;
        }
    -- a breadth-first walk visits the nodes in the order of their new numbers
    pub in_breadth : breadth_order (nodes_of (tree_in count z)) ≡ range 0 count
    -- the contexts operation writes as many contexts, and for each node the same
    pub contexts : (a b c d : ContextLists) (leaves again : ℕ)
        → leaf_contexts nodes count a ≡ record { outcome = accepted leaves; lent = b }
        → leaf_contexts z count c ≡ record { outcome = accepted again; lent = d }
        → (again ≡ leaves) × ((i : ℕ) → i < count → get_or d.contexts (number_in count nodes i) 0 ≡ get_or b.contexts i 0)
    -- lookups reach the same leaves
    pub finds : (ps : List ℤ) → length ps ≡ props_per_row → SameLeaf count nodes z ps

  -- ---- what any symbols that are accepted are read as: a sound tree, numbered breadth first, with a rowless seed's records
  pub record ReadTree (count : ℕ) (z : List (Stored M)) : Type 0 where
    pub sound : fault_of (tree_in count z) ≡ none
    pub in_breadth : breadth_order (nodes_of (tree_in count z)) ≡ range 0 count
    -- each record is what deepening leaves of a seed's node that no row reaches
    pub rowless : (i : ℕ) → node_in count z i ≡ rowless_record (node_in count z i).node (node_in count z i).info (node_in count z i).depth

-- ---- of runs
pub record SymbolsKept (M : Meter) : Type 0 where
  -- what was written of a tree is read, where its nodes have room, as that tree renumbered breadth first; entries past it are unchanged
  pub written_read : (nodes : List (Stored M)) (count n : ℕ) (x y : SymbolLists) (room : List (Stored M))
      → write_symbols nodes count x ≡ record { outcome = accepted n; lent = y } → count ≤ length room
      → let z = written_over (map stored (breadth_tree (tree_in count nodes))) room in
      (read_symbols (take n y.symbols) room ≡ record { outcome = accepted count; lent = z }) × ReadAgain count nodes z
  -- symbols that were read are written back, where they and a queue of the node count have room: the same symbols; entries past them are unchanged
  pub read_written : (symbols : List Symbol) (nodes z : List (Stored M)) (count : ℕ) (x : SymbolLists)
      → read_symbols symbols nodes ≡ record { outcome = accepted count; lent = z } → length symbols ≤ length x.symbols → count ≤ length x.queue
      → write_symbols z count x ≡ record { outcome = accepted (length symbols); lent = record { symbols = written_over symbols x.symbols; queue = replicate (length x.queue) 0 } }
  -- any symbols that are read are a sound tree, numbered breadth first, with a rowless seed's records
  pub reads : (symbols : List Symbol) (nodes z : List (Stored M)) (count : ℕ)
      → read_symbols symbols nodes ≡ record { outcome = accepted count; lent = z } → ReadTree count z
