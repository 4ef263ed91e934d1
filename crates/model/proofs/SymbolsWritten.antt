-- A sound tree's symbols are read as the tree renumbered breadth first. Assumes nothing.
use mathlib.Core.Path.{◌≡◌, refl, ◌∙◌, subst}
use mathlib.Core.Logic.{inl, inr}
use Prim.Native.Nat.{ℕ, zero, suc, ◌+◌, ◌≤◌, ◌<◌}
use native.Mathlib.Omega.{arith}
use mathlib.Core.List.Memᴰ
use mathlib.Core.List.{List, [], ◌∷◌, ◌++◌, map, map-append, append-nil}
use mathlib.Core.Option.{none, some}
use lib.ListN.{length, get_or, length-append, length-map}
use lib.Seq.{get_or-append-add}
use lib.IntN.{ℤ}
use lib.Dec.{T, ltb}
use Rattle.model.specs.Meter.{Meter}
use Rattle.model.specs.Settings.{props_per_row, toks_per_row, max_nodes}
use Rattle.model.specs.Tree.{Node, split, leaf, Record, blank_record, nodes_of, fault_of}
use Rattle.model.specs.Prune.{place_of}
use Rattle.model.specs.Contexts.{breadth_from, breadth_order}
use Rattle.model.specs.Symbols.{record_symbols, symbols_along, symbols_of, renumbered_record, renumbered_tree, breadth_tree, nodes_read, tree_read, with_children}
use Rattle.model.specs.Kept.{FieldsFit}
use Rattle.model.specs.declared.Symbol.{Symbol}
use Rattle.model.specs.Depths.{depth_in}
use Rattle.model.proofs.Paths.{T→true}
use Rattle.model.proofs.Sound.{Rooted, same_length, node_at, sound-count, has_root, sound}
use Rattle.model.proofs.BreadthFirst.{children_of, Breadth, begun, inside, few, visit, place-ahead}
use Rattle.model.proofs.SymbolsRead.{read-back}
use Rattle.model.proofs.Packing.{unpack_packed}

module _ {M : Meter} where
  -- ---- one node's symbols, and then the others', under the numbers that an order gives
  module _ (order : List ℕ) (most size : ℕ) (due : List ℕ) (r : Record M) (xs : List Symbol) (ts : List (Record M)) where
    read-split : {p : ℕ} {v : ℤ} {g l : ℕ} → r.node ≡ split p v g l → T (ltb p props_per_row) → place_of g order ≡ size + length due + 1 → place_of l order ≡ size + length due + 2
        → nodes_read most (suc size) (due ++ (suc r.depth ∷ suc r.depth ∷ [])) xs ≡ some ts
        → nodes_read (suc most) size (r.depth ∷ due) (record_symbols r ++ xs) ≡ some (renumbered_record order r ∷ ts)
    unfolding nodes_read
    read-split {p} {v} here fits eg el rest = rw (here, T→true (ltb p props_per_row) fits, unpack_packed v, rest, eg, el)

    read-leaf : r.node ≡ leaf → T (ltb r.info.pred toks_per_row) → nodes_read most (suc size) due xs ≡ some ts
        → nodes_read (suc most) size (r.depth ∷ due) (record_symbols r ++ xs) ≡ some (renumbered_record order r ∷ ts)
    unfolding nodes_read
    read-leaf here fits rest = rw (here, T→true (ltb r.info.pred toks_per_row) fits, unpack_packed r.info.offset, rest)

  module _ (rs : List (Record M)) (faultless : fault_of rs ≡ none) where
    abbrev nodes : List Node
    nodes = nodes_of rs

    abbrev order : List ℕ
    order = breadth_order nodes

    abbrev made : ℕ → Record M
    made i = renumbered_record order (get_or rs i blank_record)

    -- of the nodes that wait
    abbrev depths : List ℕ → List ℕ
    depths = map (depth_in rs)

    tree : Rooted nodes
    tree = (sound rs faultless).rooted

    root : 0 < length nodes
    root = has_root rs faultless

    -- the numbers of a split's children: they come next behind all that wait
    children-next : (done : List ℕ) (i : ℕ) (queue : List ℕ) → Breadth nodes done (i ∷ queue) → {p : ℕ} {v : ℤ} {g l : ℕ} → get_or nodes i leaf ≡ split p v g l
        → (place_of g order ≡ length done + length queue + 1) × (place_of l order ≡ length done + length queue + 2)
    children-next done i queue w {g = g} {l = l} here = (place 0 (omega arith), place 1 (omega arith))
      where
        next : Breadth nodes (done ++ (i ∷ [])) (queue ++ (g ∷ l ∷ []))
        next = rw here at (visit nodes tree root done i queue w)

        place : (k : ℕ) → k < 2 → place_of (get_or (g ∷ l ∷ []) k 0) order ≡ length done + length queue + suc k
        place k h =
            rw (← (get_or-append-add queue (g ∷ l ∷ []) k 0))
            (place-ahead nodes tree root (done ++ (i ∷ [])) (queue ++ (g ∷ l ∷ [])) next (length queue + k) (omega (arith, length-append queue (g ∷ l ∷ [])))
            ∙ omega (arith, length-append done (i ∷ [])))

    -- and they lie one deeper
    children-deeper : (i : ℕ) (queue : List ℕ) {p : ℕ} {v : ℤ} {g l : ℕ} → get_or nodes i leaf ≡ split p v g l
        → depths (queue ++ (g ∷ l ∷ [])) ≡ with_children (depth_in rs i) (depths queue)
    children-deeper i queue {g = g} {l = l} here =
        let below = (sound rs faultless).deep.child i in
        rw (map-append (depth_in rs) queue (g ∷ l ∷ []), below g (rw here (inl refl)), below l (rw here (inr refl)))

    -- nothing is due
    read-none : (most size : ℕ) → nodes_read {M = M} most size [] [] ≡ some []
    unfolding nodes_read
    read-none zero size = refl
    read-none (suc most) size = refl

    -- what waits is due
    waiting-read : (fuel most : ℕ) (done queue : List ℕ) → Breadth nodes done queue → fuel + length done ≡ length nodes → fuel ≤ most
        → nodes_read most (length done) (depths queue) (symbols_along rs (breadth_from fuel nodes queue)) ≡ some (map made (breadth_from fuel nodes queue))
    unfolding breadth_from symbols_along
    waiting-read zero most done [] w e h = read-none most (length done)
    waiting-read zero most done (i ∷ queue) w e h = absurd (omega (arith, few nodes tree root done (i ∷ queue) w))
    waiting-read (suc fuel) most done [] w e h = read-none most (length done)
    waiting-read (suc fuel) zero done (i ∷ queue) w e h = absurd (omega arith)
    waiting-read (suc fuel) (suc most) done (i ∷ queue) w e h =
        go (get_or rs i blank_record).node refl ((sound rs faultless).fits i low)
        (subst Rest (node_at rs i) (waiting-read fuel most (done ++ (i ∷ [])) (queue ++ children_of (get_or nodes i leaf)) (visit nodes tree root done i queue w) (omega (arith, longer)) (omega arith)))
      where
        longer : length (done ++ (i ∷ [])) ≡ suc (length done)
        longer = omega (arith, length-append done (i ∷ []))

        low : i < length rs
        low = rw (same_length rs) at (inside nodes tree root done (i ∷ queue) w i (Memᴰ.append_right done (Memᴰ.head refl)))

        later : List ℕ
        later = breadth_from fuel nodes (queue ++ children_of (get_or nodes i leaf))

        -- the nodes behind this one are read, which is such a node
        Rest : Node → Type 0
        Rest m = nodes_read most (length (done ++ (i ∷ []))) (depths (queue ++ children_of m)) (symbols_along rs later) ≡ some (map made later)

        go : (m : Node) → (get_or rs i blank_record).node ≡ m → FieldsFit m (get_or rs i blank_record).info.pred → Rest m
            → nodes_read (suc most) (length done) (depths (i ∷ queue)) (record_symbols (get_or rs i blank_record) ++ symbols_along rs later) ≡ some (made i ∷ map made later)
        go leaf q f rest = read-leaf order most (length done) (depths queue) (get_or rs i blank_record) (symbols_along rs later) (map made later) q f (rw (longer, append-nil queue) at rest)
        go (split p v g l) q f rest =
            let here = node_at rs i ∙ q in
            let (a, b) = children-next done i queue w here in
            let many = length-map queue (depth_in rs) in
            read-split order most (length done) (depths queue) (get_or rs i blank_record) (symbols_along rs later) (map made later) q f
            (rw many a) (rw many b) (rw (longer, children-deeper i queue here) at rest)

    pub written-is-read : tree_read (symbols_of rs) ≡ some (breadth_tree rs)
    unfolding tree_read symbols_of breadth_tree renumbered_tree breadth_order
    written-is-read =
        rw (sound rs faultless).deep.root at (waiting-read (length nodes) max_nodes [] (0 ∷ []) (begun nodes) (omega arith) (omega (arith, (sound-count rs faultless).1, same_length rs)))

  -- so a tree that was read is its own renumbering
  pub read-again : (xs : List Symbol) (t : List (Record M)) → tree_read xs ≡ some t → breadth_tree t ≡ t
  read-again xs t e =
      let b = read-back xs t e in
      let w : tree_read xs ≡ some (breadth_tree t) = rw b.same_symbols at (written-is-read t b.is_sound) in
      cc
