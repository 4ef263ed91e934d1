-- Symbols written into a list, from a place on (document 02, c). Assumes nothing.
use Rattle.std.specs.Prelude.{ℕ, ◌+◌, ◌≤◌, ◌<◌, ◌≡◌, true, List, ◌++◌, length, take, drop, eqb}
use Rattle.model.specs.Settings.{props_per_row}
use Rattle.model.specs.Lent.{record_in}
use Rattle.model.specs.Symbols.{record_symbols, symbols_of}
use Rattle.model.specs.declared.Symbol.{Symbol}
use Rattle.layout.specs.Records.{stored_of}
use Rattle.layout.specs.declared.MaNode.{MaNode}
use Rattle.tree.specs.Trees.{records_in, IsSound}

-- there is room for symbols from a place on
abbrev pub Room : List Symbol → ℕ → List Symbol → Type 0
Room old at symbols = at + length symbols ≤ length old

-- they were written from `at` on, up to `end`
pub record Wrote (old : List Symbol) (at : ℕ) (symbols new : List Symbol) (end : ℕ) : Type 0 where
  pub whole : new ≡ take at old ++ symbols ++ drop (at + length symbols) old
  pub after : end ≡ at + length symbols

-- a node's symbols
abbrev pub node_symbols : MaNode → List Symbol
node_symbols m = record_symbols (record_in (stored_of m))

-- there is room for a node's symbols, and a split's property is one of 24
pub record Puttable (old : List Symbol) (at : ℕ) (m : MaNode) : Type 0 where
  pub room : Room old at (node_symbols m)
  pub prop_fits : eqb m.kind 1 ≡ true → m.prop < props_per_row

-- a sound tree with as many symbols and nodes as the lists have places
pub record Writable (tree : List MaNode) (symbols : List Symbol) (order : List ℕ) : Type 0 where
  pub sound : IsSound tree
  pub places : length symbols ≡ length (symbols_of (records_in tree))
  pub order_there : length order ≡ length tree
