-- The walk from the root, gt first, with a stack (document 01, "Pruning": renumbered from the root, gt first). Assumes nothing.
use Rattle.std.specs.Prelude.{ℕ, ◌≤◌, ◌<◌, ◌≡◌, Bool, true, false, cond, List, [], ◌∷◌, ◌++◌, length, get_or}
use Rattle.model.specs.Settings.{max_nodes}
use Rattle.model.specs.Tree.{Node, split, leaf}
use Rattle.model.specs.Prune.{preorder}
use Rattle.model.specs.Family.{Family}
use Rattle.layout.specs.Records.{gt_at, le_at}
use Rattle.layout.specs.declared.MaNode.{MaNode}

-- le is pushed and then gt, so that gt is taken first; the top is the last
abbrev pub pushed : Bool → ℕ → ℕ → List ℕ → List ℕ
pushed kept gt le stack = cond kept (stack ++ le ∷ gt ∷ []) stack

-- a node as the lists show it: whether it is a split, and its children
abbrev pub ShownAs : Node → Bool → ℕ → ℕ → Type 0
ShownAs (split prop val gt le) s g l = (s ≡ true) × (g ≡ gt) × (l ≡ le)
ShownAs leaf s g l = s ≡ false

-- the records, with which of them are splits still, show these nodes, which are a tree
pub record ShowsNodes (nodes : List Node) (tree : List MaNode) (splits : List Bool) : Type 0 where
  pub many : length tree ≡ length nodes
  pub shown : (i : ℕ) → i < length tree → ShownAs (get_or nodes i leaf) (get_or splits i false) (gt_at tree i) (le_at tree i)
  pub family : Family nodes

-- a tree, and a place for each of its nodes
pub record Walkable (tree : List MaNode) (splits : List Bool) (places : List ℕ) : Type 0 where
  pub nodes : List Node
  pub shows : ShowsNodes nodes tree splits
  pub some : 0 < length tree
  pub few : length tree ≤ max_nodes
  pub splits_there : length tree ≤ length splits
  pub places_there : length tree ≤ length places

-- what waits on the stack: the nodes below its top, and then those below what lies under it
unfoldable pub pending : List Node → List ℕ → List ℕ
pending nodes [] = []
pending nodes (i ∷ is) = pending nodes is ++ preorder (length nodes) nodes i

-- the nodes in their new order, and each of these has its place
pub record Ordered (nodes : List Node) (order places : List ℕ) : Type 0 where
  pub order_is : order ≡ preorder (length nodes) nodes 0
  pub places_are : (q : ℕ) → q < length order → get_or places (get_or order q 0) 0 ≡ q
