-- A tree as JPEG XL symbols, about runs of the public operations (document 02, c). `ReadAgain` and `ReadTree` are the model's (SymbolsKept), field by field: the tree renumbered breadth first, its
-- contexts and its lookups; they speak of what the operations answer and of what they leave in the node lists. Assumes nothing.
use Rattle.std.specs.Prelude.{ℕ, ◌≤◌, ◌≡◌, List, [], ◌∷◌, map, length, take, replicate, ℤ, Float}
use Rattle.model.specs.Lists.{written_over}
use Rattle.model.specs.Single.{singles}
use Rattle.model.specs.Profile.{single}
use Rattle.model.specs.Standard.{MaTree, Transmits}
use Rattle.model.specs.Symbols.{breadth_tree}
use Rattle.model.specs.Lent.{stored, tree_in}
use Rattle.model.specs.Operations.{accepted, Tree, Found, lookup, ContextLists, leaf_contexts, SymbolLists}
use Rattle.model.specs.Decoder.{IsTree, DecodersTree}
use Rattle.model.specs.Promise.{Unpruned}
use Rattle.model.specs.SymbolsKept.{ReadAgain, ReadTree}
use Rattle.model.specs.declared.Symbol.{Symbol}
use Rattle.refuse.specs.Given.{settings_of}
use Rattle.refuse.specs.declared.Settings.{Settings}
use Rattle.layout.specs.Records.{stored_of}
use Rattle.layout.specs.declared.MaNode.{MaNode}
use Rattle.answers.specs.Answers.{count_in, found_in}
use Rattle.answers.specs.declared.Count.{Count}
use Rattle.border.specs.Lists.{Records, lent_in}
use Rattle.ma_tree.specs.Runs.{Deepening, LookingUp, Numbering, WritingSymbols, ReadingSymbols}
use Rattle.promises.specs.Demand3.{answered}

pub record Symbols : Type 0 where
  -- the symbols written are what a decoder reads as the tree that the nodes are, whatever contexts its leaves are given
  pub transmits : (nodes : List MaNode) (count n : ℕ) (x y : SymbolLists) (contexts : List ℕ) → WritingSymbols nodes count x (count_in (accepted n)) y
      → (t : MaTree) × IsTree (map stored_of nodes) count contexts t × Transmits (take n y.symbols) (t ∷ [])
  -- and with the contexts that the contexts' operation writes it is the tree that the decoder has, contexts included
  pub decodes : (nodes : List MaNode) (count n leaves : ℕ) (x y : SymbolLists) (v w : ContextLists) → WritingSymbols nodes count x (count_in (accepted n)) y
      → Numbering nodes count v (count_in (accepted leaves)) w → (t : MaTree) × DecodersTree (map stored_of nodes) count w.contexts t × Transmits (take n y.symbols) (t ∷ [])
  -- where its nodes have room they are read as that tree renumbered breadth first, with the same contexts and the same leaves; entries past it are unchanged
  pub written_read : (nodes : List MaNode) (count n : ℕ) (x y : SymbolLists) (room z : List MaNode) (r : Count)
      → WritingSymbols nodes count x (count_in (accepted n)) y → count ≤ length room → ReadingSymbols (take n y.symbols) room r z
      → (r ≡ count_in (accepted count)) × (map stored_of z ≡ written_over (map stored (breadth_tree (tree_in count (map stored_of nodes)))) (map stored_of room))
      × ReadAgain count (map stored_of nodes) (map stored_of z)
  -- any symbols that are accepted are a sound tree, numbered breadth first, with a rowless seed's records
  pub reads : (symbols : List Symbol) (count : ℕ) (room z : List MaNode) → ReadingSymbols symbols room (count_in (accepted count)) z → ReadTree {M = singles} count (map stored_of z)
  -- the tree that a decoder reads of them
  pub reads_standard : (symbols : List Symbol) (count : ℕ) (room z : List MaNode) (contexts : List ℕ) → ReadingSymbols symbols room (count_in (accepted count)) z
      → (t : MaTree) × IsTree (map stored_of z) count contexts t × Transmits symbols (t ∷ [])
  -- and its records are a rowless seed's: a deepening of it with no rows, unpruned, leaves the same tree under the same numbers
  pub rowless : (symbols : List Symbol) (count : ℕ) (room z : List MaNode) → ReadingSymbols symbols room (count_in (accepted count)) z
      → (s : Settings) (logs : List Float) (x y : Records) (a : Tree singles) → Unpruned single (settings_of s) → x.nodes ≡ z → (lent_in x).props ≡ []
      → Deepening s logs count x (answered a) y → (a.nodes ≡ count) × (tree_in count (map stored_of y.nodes) ≡ tree_in count (map stored_of z))
  -- and where they and a queue of the node count have room they are written back: the same symbols; entries past them are unchanged, the queue holds zeros
  pub read_written : (symbols : List Symbol) (count : ℕ) (room z : List MaNode) (x y : SymbolLists) (r : Count) → ReadingSymbols symbols room (count_in (accepted count)) z
      → length symbols ≤ length x.symbols → count ≤ length x.queue → WritingSymbols z count x r y
      → (r ≡ count_in (accepted (length symbols))) × (y ≡ record { symbols = written_over symbols x.symbols; queue = replicate (length x.queue) 0 })
  -- the lookups and the contexts that these speak of are those that the operations answer
  pub looked_up : (nodes : List MaNode) (count : ℕ) (ps : List ℤ) (f : Found) → LookingUp nodes count ps (found_in (accepted f)) → lookup (map stored_of nodes) count ps ≡ accepted f
  pub numbered : (nodes : List MaNode) (count leaves : ℕ) (x y : ContextLists) → Numbering nodes count x (count_in (accepted leaves)) y
      → leaf_contexts (map stored_of nodes) count x ≡ record { outcome = accepted leaves; lent = y }
