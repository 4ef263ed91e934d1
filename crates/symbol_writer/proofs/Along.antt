-- The symbols of a tree put along the breadth-first order, node by node. Assumes nothing.
use mathlib.Core.Path.{◌≡◌, sym, ap, ◌∙◌}
use Prim.Native.Nat.{ℕ, ◌+◌, ◌≤◌, ◌<◌}
use native.Mathlib.Numerals.{add-one}
use native.Mathlib.Omega.{arith}
use mathlib.Core.List.{List, [], ◌∷◌, ◌++◌, append_assoc, append-nil}
use lib.ListN.{length, get_or, take, drop, length-append, length-drop}
use lib.Seq.{drop-cons, drop-length, length-take-le, take_all, take_at}
use Rattle.model.specs.Single.{singles}
use Rattle.model.specs.Tree.{Record, blank_record, nodes_of}
use Rattle.model.specs.Contexts.{breadth_order}
use Rattle.model.specs.Symbols.{symbols_along, symbols_of}
use Rattle.model.specs.declared.Symbol.{Symbol}
use Rattle.model.proofs.SymbolCount.{symbols_end, symbols-more}
use Rattle.layout.specs.Records.{no_record}
use Rattle.layout.specs.declared.MaNode.{MaNode}
use Rattle.tree.specs.Trees.{records_in, IsSound}
use Rattle.tree.proofs.Entries.{record_at_lem}
use Rattle.tree.proofs.Soundness.{node_fits}
use Rattle.breadth.proofs.Walking.{order_inside}
use Rattle.symbol_writer.specs.Writing.{Wrote, node_symbols, Puttable}

-- the symbols of the first k nodes of the order end at `at`, and those of what is left of it make the tree's
pub record Written (t : List MaNode) (order : List ℕ) (k at : ℕ) (symbols : List Symbol) : Type 0 where
  pub there : length symbols ≡ length (symbols_of (records_in t))
  pub ordered : order ≡ breadth_order (nodes_of (records_in t))
  pub within : at ≤ length symbols
  pub same : take at symbols ++ symbols_along (records_in t) (drop k order) ≡ symbols_of (records_in t)

module _ (t : List MaNode) (is : IsSound t) (order : List ℕ) where
  abbrev rs : List (Record singles)
  rs = records_in t

  pub written_first : (symbols : List Symbol) → order ≡ breadth_order (nodes_of rs) → length symbols ≡ length (symbols_of rs) → Written t order 0 0 symbols
  unfolding symbols_of
  written_first symbols ordered there = record { there = there; ordered = ordered; within = omega arith; same = ap (symbols_along rs) ordered }

  module _ (k at : ℕ) (symbols : List Symbol) (w : Written t order k at symbols) (more : k < length order) where
    abbrev i : ℕ
    i = get_or order k 0

    abbrev rest : List Symbol
    rest = symbols_along rs (drop (k + 1) order)

    pub next_inside : i < length t
    next_inside = order_inside t is order w.ordered k more

    -- node i is next, as the record has it
    abbrev own : List Symbol
    own = node_symbols (get_or t i no_record)

    left : symbols_along rs (drop k order) ≡ own ++ rest
    left =
        let next : drop k order ≡ i ∷ drop (k + 1) order = drop-cons order k 0 more ∙ rw (add-one k) in
        rw (next, symbols-more rs i (drop (k + 1) order), record_at_lem t i blank_record next_inside)

    fits : at + (length own + length rest) ≡ length symbols
    fits =
        omega (
          arith,
          w.there,
          ap length w.same,
          length-append (take at symbols) (symbols_along rs (drop k order)),
          length-take-le at symbols w.within,
          ap length left,
          length-append own rest,
        )

    pub puttable : Puttable symbols at (get_or t i no_record)
    puttable = record { room = omega (arith, fits); prop_fits = λ is-split. (node_fits t is i next_inside is-split).0 }

    pub written_on : (new : List Symbol) (end : ℕ) → Wrote symbols at own new end → Written t order (k + 1) end new
    written_on new end p =
        let front : length (take at symbols ++ own) ≡ at + length own = omega (arith, length-append (take at symbols) own, length-take-le at symbols w.within) in
        let back = drop (at + length own) symbols in
        let size : length new ≡ length symbols = omega (arith, ap length p.whole, length-append (take at symbols ++ own) back, front, length-drop (at + length own) symbols, fits) in
        record {
          there = size ∙ w.there;
          ordered = w.ordered;
          within = omega (arith, p.after, size, fits);
          same = rw (p.after, p.whole, take_at (take at symbols ++ own) back (at + length own) front)
              (append_assoc (take at symbols) own rest ∙ ap (λ (l : List Symbol). take at symbols ++ l) (sym left) ∙ w.same);
        }

  -- no node is left
  pub written_end : (k at : ℕ) (symbols : List Symbol) → Written t order k at symbols → k ≡ length order → symbols ≡ symbols_of rs
  written_end k at symbols w e =
      let none : symbols_along rs (drop k order) ≡ [] = rw (e, drop-length order) (symbols_end rs) in
      let front : take at symbols ≡ symbols_of rs = sym (append-nil (take at symbols)) ∙ (rw none at w.same) in
      let whole : length symbols ≤ at = omega (arith, ap length front, w.there, length-take-le at symbols w.within) in
      sym (take_all at symbols whole) ∙ front
