-- Node lists that are trees: parents and children, and the nodes that a lookup meets. Assumes nothing.
use Rattle.std.specs.Prelude.{◌≡◌, ◌≢◌, ◌⊎◌, ℕ, zero, suc, ◌<◌, Bool, false, ◌||◌, List, length, get_or, ℤ, eqb}
use Rattle.model.specs.Rows.{Row}
use Rattle.model.specs.Tree.{Node, split, leaf, follow}

-- the children of node i of n stand after it
abbrev pub Forward : ℕ → ℕ → Node → Type 0
Forward n i (split prop val gt le) = (i < gt) × (i < le) × (gt < n) × (le < n)
Forward n i leaf = Unit {0}

-- of every node
abbrev pub AllForward : List Node → Type 0
AllForward nodes = (i : ℕ) → i < length nodes → Forward (length nodes) i (get_or nodes i leaf)

-- node c is a child of this node
abbrev pub ChildOf : Node → ℕ → Type 0
ChildOf (split prop val gt le) c = (c ≡ gt) ⊎ (c ≡ le)
ChildOf leaf c = ⊥

-- node c is a child of node a
abbrev pub Child : List Node → ℕ → ℕ → Type 0
Child nodes a c = ChildOf (get_or nodes a leaf) c

-- a split's children are two
abbrev pub Twins : Node → Type 0
Twins (split prop val gt le) = gt ≢ le
Twins leaf = Unit {0}

-- a tree: children stand after their parent, a node has one parent, a split two children
pub record Family (nodes : List Node) : Type 0 where
  pub forward : AllForward nodes
  pub one_parent : (a b c : ℕ) → Child nodes a c → Child nodes b c → a ≡ b
  pub two_children : (a : ℕ) → Twins (get_or nodes a leaf)

-- node 0 lies at depth 0, and each child one deeper than its parent
pub record Deep (nodes : List Node) (depth_at : ℕ → ℕ) : Type 0 where
  pub root : depth_at 0 ≡ 0
  pub child : (a c : ℕ) → Child nodes a c → depth_at c ≡ suc (depth_at a)

-- node a stands above another: as its parent, or above its parent
pub data Anc (nodes : List Node) (a : ℕ) : ℕ → Type 0 where
  parent : {c : ℕ} → Child nodes a c → Anc nodes a c
  under : {b c : ℕ} → Anc nodes a b → Child nodes b c → Anc nodes a c

-- the way of a lookup from node i meets node k
unfoldable pub meets : ℕ → List Node → List ℤ → ℕ → ℕ → Bool
meets zero nodes ps k i = eqb i k
meets (suc fuel) nodes ps k i = eqb i k || follow ps false (λ (c : ℕ). meets fuel nodes ps k c) (get_or nodes i leaf)

-- the way of a row's lookup from the root meets node k
abbrev pub passes : List Node → ℕ → Row → Bool
passes nodes k r = meets (length nodes) nodes r.props k 0
