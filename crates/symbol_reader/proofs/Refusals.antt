-- What reading symbols answers, case by case, in the order of the checks. Assumes nothing.
use mathlib.Core.Path.{◌≡◌, refl, sym, ap, ◌∙◌}
use Prim.Native.Nat.{ℕ, ◌≤◌, ◌<◌}
use native.Mathlib.Omega.{arith}
use mathlib.Core.List.{List, [], ◌∷◌, ◌++◌, map}
use mathlib.Core.Option.{Option, none, some}
use lib.ListN.{length, drop}
use borrow.Author.Tests.{lt-ltb, le-ltb}
use Rattle.std.proofs.lemmas.List.{length-map, map-append, drop-map}
use Rattle.model.specs.Single.{singles}
use Rattle.model.specs.Lists.{written_over}
use Rattle.model.specs.Tree.{Record}
use Rattle.model.specs.Lent.{Stored, stored}
use Rattle.model.specs.Refuse.{read_refusal}
use Rattle.model.specs.Operations.{refused, accepted, After, read_symbols, nodes_in}
use Rattle.model.specs.Symbols.{tree_read}
use Rattle.model.specs.declared.Symbol.{Symbol}
use Rattle.layout.specs.Records.{stored_of}
use Rattle.layout.specs.declared.MaNode.{MaNode}
use Rattle.symbol_reader.specs.Nodes.{as_stored, count_of, records_read}

-- records of the model that were stored are read again
again : (tree : List (Record singles)) → map stored_of (map as_stored tree) ≡ map stored tree
again [] = refl
again (r ∷ tree) = ap (λ (l : List (Stored singles)). stored r ∷ l) (again tree)

module _ (symbols : List Symbol) (nodes : List MaNode) where
  -- the answer and the node list at exit
  abbrev given : After ℕ (List (Stored singles))
  given = read_symbols symbols (map stored_of nodes)

  -- 11: no tree
  pub bad : none ≡ count_of (tree_read symbols) → given ≡ record { outcome = refused (record { number = 11; place = 0 }); lent = map stored_of nodes }
  unfolding read_symbols read_refusal
  bad e = go (tree_read symbols) refl
    where
      go : (o : Option (List (Record singles))) → tree_read symbols ≡ o
          → given ≡ record { outcome = refused (record { number = 11; place = 0 }); lent = map stored_of nodes }
      go none r = rw r
      go (some tree) r = absurd (let h = rw r at e in cc)

  module _ (n : ℕ) (count : some n ≡ count_of (tree_read symbols)) where
    -- 7: node list shorter than the node count
    pub cramped : length nodes < n → given ≡ record { outcome = refused (record { number = 7; place = 0 }); lent = map stored_of nodes }
    unfolding read_symbols read_refusal
    cramped h = go (tree_read symbols) refl
      where
        go : (o : Option (List (Record singles))) → tree_read symbols ≡ o
            → given ≡ record { outcome = refused (record { number = 7; place = 0 }); lent = map stored_of nodes }
        go none r = absurd (let c = rw r at count in cc)
        go (some tree) r =
            let c = rw r at count in
            let size : n ≡ length tree = cc in
            rw (r, length-map nodes stored_of, lt-ltb (length nodes) (length tree) (omega (arith, size)))

    -- the records are written over the front of the list
    pub granted : n ≤ length nodes → (new : List MaNode) → new ≡ records_read symbols
        → given ≡ record { outcome = accepted n; lent = map stored_of (new ++ drop n nodes) }
    unfolding read_symbols read_refusal
    granted h new is = go (tree_read symbols) refl
      where
        go : (o : Option (List (Record singles))) → tree_read symbols ≡ o → given ≡ record { outcome = accepted n; lent = map stored_of (new ++ drop n nodes) }
        go none r = absurd (let c = rw r at count in cc)
        go (some tree) r =
            let c = rw r at count in
            let size : n ≡ length tree = cc in
            let front = ap (map stored_of) (is ∙ ap (λ (o : Option (List (Record singles))). map as_stored (nodes_in o)) r) ∙ again tree in
            let back = sym (drop-map stored_of n nodes) ∙ ap (λ (k : ℕ). drop k (map stored_of nodes)) (size ∙ sym (length-map tree stored)) in
            let lists : map stored_of (new ++ drop n nodes) ≡ written_over (map stored tree) (map stored_of nodes) =
            map-append stored_of new (drop n nodes) ∙ rw (front, back) in
            rw (r, length-map nodes stored_of, le-ltb (length nodes) (length tree) (omega (arith, size, h)), lists, size)
