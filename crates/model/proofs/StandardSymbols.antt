-- The symbols written are what the standard transmits of the tree: a decoder that reads them has the tree, whatever contexts its leaves are given. And symbols that are read are those of the
-- tree that a decoder has of them. Assumes nothing.
use mathlib.Core.Path.{◌≡◌, sym, ◌∙◌}
use Prim.Native.Nat.{ℕ, zero, suc, ◌+◌, ◌<◌}
use native.Mathlib.Omega.{arith}
use mathlib.Core.List.{List, [], ◌∷◌, append-nil}
use mathlib.Core.Option.{none}
use lib.ListN.{length, get_or, length-append, take}
use Rattle.model.specs.Meter.{Meter}
use Rattle.model.specs.Standard.{MaTree, Transmits, all-read, leaf-read, decision-read}
use Rattle.model.specs.Tree.{Node, split, leaf, Record, blank_record, nodes_of, fault_of}
use Rattle.model.specs.Contexts.{breadth_from, breadth_order}
use Rattle.model.specs.Symbols.{symbols_along, symbols_of}
use Rattle.model.specs.Lent.{Stored, tree_in}
use Rattle.model.specs.Operations.{accepted, SymbolLists, write_symbols, read_symbols}
use Rattle.model.specs.declared.Symbol.{Symbol}
use Rattle.model.specs.Decoder.{Shows, shows-leaf, shows-decision, leaf_in, IsTree}
use Rattle.model.proofs.Sound.{Rooted, node_at, has_root, sound}
use Rattle.model.proofs.Accepted.{write-passed}
use Rattle.model.proofs.BreadthFirst.{Breadth, begun, few, visit}
use Rattle.model.proofs.OperationLaws.{write-accepted, read-accepted}
use Rattle.model.proofs.SymbolsRead.{read-back}
use Rattle.model.proofs.StandardContexts.{AllShow, no_more, more, two-more}
use Rattle.model.proofs.Packing.{unpack_packed}

module _ {M : Meter} (rs : List (Record M)) (faultless : fault_of rs ≡ none) (contexts : List ℕ) where
  abbrev nodes : List Node
  nodes = nodes_of rs

  tree : Rooted nodes
  tree = (sound rs faultless).rooted

  root : 0 < length nodes
  root = has_root rs faultless

  -- from a node on: the trees that wait are read of the symbols that are still to be written
  along : (fuel : ℕ) {done queue : List ℕ} {ts : List MaTree} → Breadth nodes done queue → fuel + length done ≡ length nodes
      → AllShow nodes (leaf_in rs contexts) queue ts → Transmits (symbols_along rs (breadth_from fuel nodes queue)) ts
  unfolding breadth_from symbols_along
  along zero w n no_more = all-read
  along zero {done} w n (more {i} {queue = queue} s ss) = absurd (omega (arith, few nodes tree root done (i ∷ queue) w))
  along (suc fuel) w n no_more = all-read
  along (suc fuel) {done} w n (more {i} {queue = queue} (shows-leaf here) ss) =
      let next = rw (here, append-nil queue) at (visit nodes tree root done i queue w) in
      let said : (get_or rs i blank_record).node ≡ leaf = sym (node_at rs i) ∙ here in
      rw (said, here, append-nil queue) (leaf-read (unpack_packed (get_or rs i blank_record).info.offset) (along fuel next (omega (arith, length-append done (i ∷ []))) ss))
  along (suc fuel) {done} w n (more {i} {queue = queue} (shows-decision {k = k} {gt = gt} {le = le} {value = value} here a z) ss) =
      let next = rw here at (visit nodes tree root done i queue w) in
      let said : (get_or rs i blank_record).node ≡ split k value gt le = sym (node_at rs i) ∙ here in
      rw (said, here) (decision-read (unpack_packed value) (along fuel next (omega (arith, length-append done (i ∷ []))) (two-more ss a z)))

  pub transmitted : {t : MaTree} → Shows nodes (leaf_in rs contexts) 0 t → Transmits (symbols_of rs) (t ∷ [])
  unfolding symbols_of breadth_order
  transmitted s = along (length nodes) (begun nodes) (omega arith) (more s no_more)

-- of a sound tree at the front of a node list
pub symbols-transmitted : {M : Meter} (nodes : List (Stored M)) (count : ℕ) → fault_of (tree_in count nodes) ≡ none
    → (contexts : List ℕ) (t : MaTree) → IsTree nodes count contexts t → Transmits (symbols_of (tree_in count nodes)) (t ∷ [])
symbols-transmitted nodes count faultless contexts t s = transmitted (tree_in count nodes) faultless contexts s

-- what an accepted call writes is what the standard transmits of the tree
pub symbols_are_standard : {M : Meter} (nodes : List (Stored M)) (count n : ℕ) (x y : SymbolLists) → write_symbols nodes count x ≡ record { outcome = accepted n; lent = y }
    → (contexts : List ℕ) (t : MaTree) → IsTree nodes count contexts t → Transmits (take n y.symbols) (t ∷ [])
symbols_are_standard nodes count n x y e contexts t s =
    let (_, faultless, _, _, _, _) = write-passed nodes count x y n e in
    rw (write-accepted nodes count x y n e).written (symbols-transmitted nodes count faultless contexts t s)

-- and what an accepted call reads is what a decoder reads
pub read_is_standard : {M : Meter} (symbols : List Symbol) (nodes z : List (Stored M)) (count : ℕ) → read_symbols symbols nodes ≡ record { outcome = accepted count; lent = z }
    → (contexts : List ℕ) (t : MaTree) → IsTree z count contexts t → Transmits symbols (t ∷ [])
read_is_standard symbols nodes z count e contexts t s =
    let got = read-accepted symbols nodes z count e in
    let back = read-back symbols got.tree got.is_read in
    rw (got.written, back.same_symbols) at (symbols-transmitted z count (rw got.written back.is_sound) contexts t s)
