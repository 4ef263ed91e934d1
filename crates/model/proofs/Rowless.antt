-- What a rowless seed's records are: what deepening leaves of a seed that no row reaches, of any limit, if it does not prune. A tree that was read of symbols stays as it is. Assumes nothing.
use mathlib.Core.Path.{◌≡◌, refl, sym, ap, ◌∙◌}
use mathlib.Core.Logic.{inl, inr}
use Prim.Native.Nat.{ℕ, zero, suc, ◌-◌}
use native.Mathlib.Omega.{arith}
use mathlib.Core.Bool.{false}
use mathlib.Core.List.{List, [], ◌∷◌, ◌++◌, map, map-append, append-nil}
use mathlib.Core.Option.{none, some}
use lib.ListN.{length, length-map}
use lib.Seq.{append_snoc}
use Rattle.model.specs.Lists.{Each}
use Rattle.model.specs.Meter.{Meter}
use Rattle.model.specs.Tree.{Node, split, leaf, Info, Record, nodes_of}
use Rattle.model.specs.Job.{Job, prunes}
use Rattle.model.specs.Grow.{Entry, State, no_entry, record_of, step, steps}
use Rattle.model.specs.Learn.{leaf_count, result_of, pruned, settled_state, finished}
use Rattle.model.specs.Deepen.{rows_at, rowless, with_seed_node, seed_from, seed_state, deepened}
use Rattle.model.specs.Symbols.{rowless_record, tree_read}
use Rattle.model.specs.declared.Symbol.{Symbol}
use Rattle.model.proofs.Invariant.{none_is_no_some}
use Rattle.model.proofs.Steps.{step_is}
use Rattle.model.proofs.Each.{each_get_d, each_append}
use Rattle.model.proofs.Vacated.{settled-tree}
use Rattle.model.proofs.SymbolsRead.{read-back}

module _ {M : Meter} where
  abbrev pub rowless_records : List (Record M) → List (Record M)
  rowless_records = map (λ (r : Record M). rowless_record r.node r.info r.depth)

  -- an entry that waits for no split
  abbrev Quiet : Entry M → Type 0
  Quiet e = e.offer ≡ none

  module _ (j : Job M) where
    -- ---- the state that a seed starts in
    -- the entries of a rowless seed: they have these records, and none waits
    record Still (rs : List (Record M)) (tree : List (Entry M)) : Type 0 where
      records : map record_of tree ≡ rowless_records rs
      quiet : Each Quiet tree

    entry_of : (n : Node) (i : Info M) (depth : ℕ) → (record_of (rowless n i depth) ≡ rowless_record n i depth) × Quiet (rowless n i depth)
    entry_of leaf i depth = (refl, refl)
    entry_of (split p v g l) i depth = (refl, refl)

    tree_with : (n : Node) (i : Info M) (depth : ℕ) (s : State M) → (with_seed_node j n i depth [] s).tree ≡ s.tree ++ (rowless n i depth ∷ [])
    tree_with leaf i depth s = refl
    tree_with (split p v g l) i depth s = refl

    -- one node more
    still-more : (rs : List (Record M)) (r : Record M) (s : State M) → Still rs s.tree → Still (rs ++ (r ∷ [])) (with_seed_node j r.node r.info r.depth [] s).tree
    still-more rs r s h = rw (tree_with r.node r.info r.depth s) (record {
      records = map-append record_of s.tree (rowless r.node r.info r.depth ∷ [])
          ∙ rw (h.records, (entry_of r.node r.info r.depth).0) (sym (map-append (λ (r : Record M). rowless_record r.node r.info r.depth) rs (r ∷ [])));
      quiet = each_append Quiet s.tree (rowless r.node r.info r.depth ∷ []) h.quiet ((entry_of r.node r.info r.depth).1, tt);
    })

    still-from : (nodes : List Node) (i : ℕ) (before rs : List (Record M)) (s : State M) → Still before s.tree → Still (before ++ rs) (seed_from j nodes [] i rs s).tree
    unfolding seed_from rows_at
    still-from nodes i before [] s h = rw (append-nil before) h
    still-from nodes i before (r ∷ rs) s h =
        rw (← append_snoc before r rs) (still-from nodes (suc i) (before ++ (r ∷ [])) rs (with_seed_node j r.node r.info r.depth [] s) (still-more before r s h))

    still : (rs : List (Record M)) → Still rs (seed_state j rs []).tree
    unfolding seed_state
    still rs = still-from (nodes_of rs) 0 [] rs (record { rows = []; tree = []; bits = M.no_total }) (record { records = refl; quiet = tt })

    pub seed-records : (rs : List (Record M)) → map record_of (seed_state j rs []).tree ≡ rowless_records rs
    seed-records rs = (still rs).records

    -- ---- nothing grows
    step_same : (s : State M) → Each Quiet s.tree → step j s ≡ s
    step_same s q = elim (step_is j s) [ inl e ↦ e | inr one ↦ absurd (none_is_no_some one.offer (sym (each_get_d Quiet s.tree one.number no_entry refl q) ∙ one.waiting)) ]

    steps-same : (n : ℕ) (s : State M) → Each Quiet s.tree → steps j n s ≡ s
    unfolding steps
    steps-same zero s q = refl
    steps-same (suc n) s q = rw (steps-same n s q) (step_same s q)

    -- ---- the answer
    -- nothing is pruned, and settling leaves the tree
    uncut : (s : State M) → prunes j ≡ false → (settled_state j (pruned j s)).tree ≡ s.tree
    unfolding pruned
    uncut s e = settled-tree j (pruned j s) ∙ rw e

    -- the answer's tree has the seed's nodes, with these records, whatever the limit
    pub deepened-rowless : (limit : ℕ) (rs : List (Record M)) → prunes j ≡ false
        → let r = deepened j limit rs [] in (r.count ≡ length rs) × (r.records ≡ rowless_records rs)
    unfolding deepened finished result_of
    deepened-rowless limit rs e =
        let tree : List (Entry M) = (seed_state j rs []).tree in
        let none_more : length tree - length tree ≡ 0 = omega arith in
        let n = length-map tree record_of in
        let m = length-map rs (λ (r : Record M). rowless_record r.node r.info r.depth) in
        rw (steps-same (limit - leaf_count (nodes_of rs)) (seed_state j rs []) (still rs).quiet, uncut (seed_state j rs []) e, none_more, append-nil tree)
        (omega (arith, ap length (seed-records rs)), seed-records rs)

    -- of a tree that was read of symbols they are its own
    pub read-rowless : (limit : ℕ) (xs : List Symbol) (t : List (Record M)) → tree_read xs ≡ some t → prunes j ≡ false
        → let r = deepened j limit t [] in (r.count ≡ length t) × (r.records ≡ t)
    read-rowless limit xs t e f = let (n, same) = deepened-rowless limit t f in (n, same ∙ (read-back xs t e).rowless)
