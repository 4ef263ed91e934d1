-- A node's distance from the root, and node lists that store it (document 02, d). Assumes nothing.
use Rattle.std.specs.Prelude.{◌≡◌, ℕ, suc, ◌<◌, List, map, length, get_or}
use Rattle.model.specs.Meter.{Meter}
use Rattle.model.specs.Tree.{Node, Record, blank_record, nodes_of}
use Rattle.model.specs.Family.{Child}
use Rattle.model.specs.Lent.{Stored}

-- node k stands so many splits below node 0
pub data LiesAt (nodes : List Node) : ℕ → ℕ → Type 0 where
  at_root : LiesAt nodes 0 0
  one_down : {a c depth : ℕ} → LiesAt nodes a depth → Child nodes a c → LiesAt nodes c (suc depth)

module _ {M : Meter} where
  -- the depth that node k stores
  abbrev pub depth_in : List (Record M) → ℕ → ℕ
  depth_in tree k = (get_or tree k blank_record).depth

  -- each node's stored depth is its distance from the root, and no other number is
  abbrev pub DepthsStored : List (Record M) → Type 0
  DepthsStored tree = (k : ℕ) → k < length tree → LiesAt (nodes_of tree) k (depth_in tree k) × ((d : ℕ) → LiesAt (nodes_of tree) k d → d ≡ depth_in tree k)

  -- an entry but for its depth
  abbrev pub depthless : Stored M → Stored M
  depthless e = record { kind = e.kind; prop = e.prop; val = e.val; gt = e.gt; le = e.le; info = e.info; depth = 0 }

  -- node lists that differ in stored depths alone
  abbrev pub AlikeButDepths : List (Stored M) → List (Stored M) → Type 0
  AlikeButDepths nodes others = map depthless nodes ≡ map depthless others
