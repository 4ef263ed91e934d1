-- The node list and the contexts that are handed out, as the tree that a decoder of ISO/IEC 18181-1 has. Assumes nothing.
use Rattle.std.specs.Prelude.{◌≡◌, ℕ, List, length, get_or, ℤ}
use Rattle.model.specs.Meter.{Meter}
use Rattle.model.specs.Settings.{props_per_row}
use Rattle.model.specs.Standard.{MaLeaf, MaTree, decision, leaf_node, leaf_for, IsDecoded}
use Rattle.model.specs.Tree.{Node, split, leaf, Record, blank_record, nodes_of}
use Rattle.model.specs.Lent.{Stored, tree_in}
use Rattle.model.specs.Operations.{accepted, lookup}

-- node i, with all that hangs under it, is this tree: gt is the left child, le the right one; `leaf_at` says what a leaf carries
pub data Shows (nodes : List Node) (leaf_at : ℕ → MaLeaf) : ℕ → MaTree → Type 0 where
  shows-leaf : {i : ℕ} → get_or nodes i leaf ≡ leaf → Shows nodes leaf_at i (leaf_node (leaf_at i))
  shows-decision : {i k gt le : ℕ} {value : ℤ} {left right : MaTree} → get_or nodes i leaf ≡ split k value gt le
      → Shows nodes leaf_at gt left
      → Shows nodes leaf_at le right
      → Shows nodes leaf_at i (decision k value left right)

module _ {M : Meter} where
  -- what the leaf at entry i carries: the predictor and the offset beside it, and the context that the context list has there
  abbrev pub leaf_in : List (Record M) → List ℕ → ℕ → MaLeaf
  leaf_in tree contexts i =
      let info = (get_or tree i blank_record).info in
      record { context = get_or contexts i 0; predictor = info.pred; offset = info.offset }

  -- the first `count` nodes, with these contexts, are this tree
  abbrev pub IsTree : List (Stored M) → ℕ → List ℕ → MaTree → Type 0
  IsTree nodes count contexts t = let tree = tree_in count nodes in Shows (nodes_of tree) (leaf_in tree contexts) 0 t

  -- lookup answers with an entry and a predictor: they are those of the leaf that the standard finds in this tree
  abbrev pub FindsLeaf : List (Stored M) → ℕ → List ℕ → MaTree → List ℤ → Type 0
  FindsLeaf nodes count contexts t ps =
      let found = leaf_for ps t in
      (i : ℕ) × (lookup nodes count ps ≡ accepted (record { leaf = i; pred = found.predictor })) × (leaf_in (tree_in count nodes) contexts i ≡ found)

  -- this tree, with these contexts at its leaves, is what a decoder has of the first `count` nodes
  pub record DecodersTree (nodes : List (Stored M)) (count : ℕ) (contexts : List ℕ) (t : MaTree) : Type 0 where
    pub is-tree : IsTree nodes count contexts t
    -- a decoder that reads the tree gives its leaves the contexts that they have
    pub decoded : IsDecoded t
    -- any 24 properties lead a lookup to the leaf to which they lead a decoder
    pub finds : (ps : List ℤ) → length ps ≡ props_per_row → FindsLeaf nodes count contexts t ps
