-- What the writer of symbols answers, case by case, in the order of the checks. Assumes nothing.
use mathlib.Core.Path.{◌≡◌}
use Prim.Native.Nat.{ℕ}
use mathlib.Core.Bool.{true, false, ◌||◌}
use mathlib.Core.List.{List, ◌++◌, map}
use mathlib.Core.Option.{none, some}
use lib.ListN.{length, take, drop, replicate}
use lib.Dec.{ltb}
use Rattle.model.specs.Symbols.{symbols_of}
use Rattle.model.specs.Refuse.{fault_in, write_refusal}
use Rattle.model.specs.Operations.{refused, accepted, After, SymbolLists, write_symbols}
use Rattle.model.specs.declared.Symbol.{Symbol}
use Rattle.layout.specs.Records.{stored_of}
use Rattle.layout.specs.declared.MaNode.{MaNode}
use Rattle.tree.specs.Trees.{records_in}
use Rattle.tree.proofs.Entries.{tree-is}

module _ (nodes : List MaNode) (count : ℕ) (x : SymbolLists) where
  -- the answer and the lists at exit
  abbrev given : After ℕ SymbolLists
  given = write_symbols (map stored_of nodes) count x

  -- 8: a fault, or a count beyond the list
  pub faulty : (i : ℕ) → fault_in count (map stored_of nodes) ≡ some i → given ≡ record { outcome = refused (record { number = 8; place = i }); lent = x }
  unfolding write_symbols write_refusal
  faulty i e = rw e

  module _ (sound : fault_in count (map stored_of nodes) ≡ none) (wanted : ℕ) (is : wanted ≡ length (symbols_of (records_in (take count nodes)))) where
    -- 7: the symbols, or a queue of the node count, don't fit
    pub cramped : (ltb (length x.symbols) wanted || ltb (length x.queue) count) ≡ true → given ≡ record { outcome = refused (record { number = 7; place = 0 }); lent = x }
    unfolding write_symbols write_refusal
    cramped e = rw (sound, tree-is nodes count, ← is, e)

    -- the symbols were written over the front of the list
    pub written : (new : List Symbol) (queue : List ℕ) → (ltb (length x.symbols) wanted || ltb (length x.queue) count) ≡ false
        → new ≡ symbols_of (records_in (take count nodes)) → queue ≡ replicate (length x.queue) 0
        → given ≡ record { outcome = accepted wanted; lent = record { symbols = new ++ drop wanted x.symbols; queue = queue } }
    unfolding write_symbols write_refusal
    written new queue e all zero = rw (sound, tree-is nodes count, ← is, e, all, zero)
