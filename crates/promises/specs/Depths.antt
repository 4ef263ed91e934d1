-- Stored depths, about runs of the public operations (document 02, d). `DepthsStored` is the model's (Depths): each node's stored depth is its distance from the root. Assumes nothing.
use Rattle.std.specs.Prelude.{ℕ, ◌≡◌, List, map, ℤ, Float}
use Rattle.model.specs.Single.{singles}
use Rattle.model.specs.Lent.{tree_in}
use Rattle.model.specs.Operations.{Tree, accepted, ContextLists, SymbolLists}
use Rattle.model.specs.Depths.{DepthsStored, AlikeButDepths}
use Rattle.model.specs.declared.Symbol.{Symbol}
use Rattle.refuse.specs.declared.Settings.{Settings}
use Rattle.layout.specs.Records.{stored_of}
use Rattle.layout.specs.declared.MaNode.{MaNode}
use Rattle.answers.specs.Answers.{count_in}
use Rattle.answers.specs.declared.FoundLeaf.{FoundLeaf}
use Rattle.border.specs.Lists.{Records}
use Rattle.ma_tree.specs.Runs.{Learning, Deepening, LookingUp, Numbering, WritingSymbols, ReadingSymbols}
use Rattle.promises.specs.Demand3.{answered}

-- the first `count` nodes store their distances from the root
abbrev pub StoresDepths : ℕ → List MaNode → Type 0
StoresDepths count nodes = DepthsStored {M = singles} (tree_in count (map stored_of nodes))

pub record Depths : Type 0 where
  -- the nodes that learning and deepening answer with, pruned or not, and those that are read of symbols
  pub learnt : (s : Settings) (logs : List Float) (x y : Records) (a : Tree singles) → Learning s logs x (answered a) y → StoresDepths a.nodes y.nodes
  pub deepened : (s : Settings) (logs : List Float) (count : ℕ) (x y : Records) (a : Tree singles) → Deepening s logs count x (answered a) y → StoresDepths a.nodes y.nodes
  pub read : (symbols : List Symbol) (count : ℕ) (room z : List MaNode) → ReadingSymbols symbols room (count_in (accepted count)) z → StoresDepths count z
  -- the nodes with which deepening, contexts and the writing of symbols are content
  pub seed : (s : Settings) (logs : List Float) (count : ℕ) (x y : Records) (a : Tree singles) → Deepening s logs count x (answered a) y → StoresDepths count x.nodes
  pub numbered : (nodes : List MaNode) (count leaves : ℕ) (x y : ContextLists) → Numbering nodes count x (count_in (accepted leaves)) y → StoresDepths count nodes
  pub written : (nodes : List MaNode) (count n : ℕ) (x y : SymbolLists) → WritingSymbols nodes count x (count_in (accepted n)) y → StoresDepths count nodes
  -- a lookup answers alike, and a refusal too, whatever depths the nodes store
  pub looked_up : (nodes others : List MaNode) (count : ℕ) (ps : List ℤ) (r q : FoundLeaf) → AlikeButDepths {M = singles} (map stored_of nodes) (map stored_of others)
      → LookingUp nodes count ps r → LookingUp others count ps q → q ≡ r
