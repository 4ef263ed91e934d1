-- Contexts given along an order of the nodes, one node at a time (document 01, "Contexts"). Assumes nothing.
use Rattle.std.specs.Prelude.{ℕ, ◌+◌, ◌<◌, ◌≡◌, List, length, set}
use Rattle.model.specs.Tree.{Node, split, leaf}
use Rattle.layout.specs.declared.MaNode.{MaNode}
use Rattle.tree.specs.Trees.{IsSound}

-- the next context, and the list of contexts
pub record Numbering : Type 0 where
  pub next : ℕ
  pub contexts : List ℕ

abbrev pub numbering : ℕ → List ℕ → Numbering
numbering next contexts = record { next = next; contexts = contexts }

-- a leaf is given the next context, a split none
abbrev pub given : Node → ℕ → Numbering → Numbering
given (split prop val gt le) i n = numbering n.next n.contexts
given leaf i n = numbering (n.next + 1) (set n.contexts i n.next)

-- there is a place for the context of node i
pub record Giveable (i next : ℕ) (contexts : List ℕ) : Type 0 where
  pub place : i < length contexts
  pub next_fits : next < 4294967295

-- a sound tree with as many nodes as each list has places
pub record Numerable (tree : List MaNode) (contexts queue : List ℕ) : Type 0 where
  pub sound : IsSound tree
  pub places : length contexts ≡ length tree
  pub queue_there : length queue ≡ length tree
