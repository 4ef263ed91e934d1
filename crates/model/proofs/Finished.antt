-- What pruning and settling make of a grown tree, and how the result shows it. Assumes nothing.
use mathlib.Core.Path.{◌≡◌, refl, sym, ap, ◌∙◌, subst}
use mathlib.Core.Logic.{◌⊎◌, inl, inr}
use Prim.Native.Nat.{ℕ, zero, suc, ◌+◌, ◌-◌, ◌≤◌, ◌<◌}
use native.Mathlib.Nat.{lt_irrefl}
use native.Mathlib.Omega.{arith}
use mathlib.Core.Bool.{Bool, true, false}
use mathlib.Core.List.{List, [], ◌∷◌, ◌++◌, map, map-map, map-append}
use mathlib.Core.Option.{none}
use lib.ListN.{length, get_or, take, replicate, length-map, length-append, length-replicate, get_or-map, get_or-append}
use lib.Seq.{length-slice, take_at, get_or-set_same}
use lib.IntN.{ℤ}
use lib.Dec.{T, ltb, ltb→lt}
use Rattle.model.specs.Lists.{all}
use Rattle.model.specs.Meter.{Meter}
use Rattle.model.specs.Settings.{max_nodes}
use Rattle.model.specs.Rows.{Row, tok_of, res_of, with_zero, Span, no_span, within}
use Rattle.model.specs.Mode.{mode, zero_token, span_mode, rebased, fresh}
use Rattle.model.specs.Tree.{Node, split, leaf, is_leaf, Record, blank_record, nodes_of, fault_of}
use Rattle.model.specs.Job.{Job, prunes}
use Rattle.model.specs.Grow.{Entry, State, no_entry, tree_nodes, record_of}
use Rattle.model.specs.Prune.{renumbered, pruned_nodes, pruned_tree, pruned_bits, moved}
use Rattle.model.specs.Learn.{Result, result_of, pruned, settled_state}
use Rattle.model.specs.Promise.{no_row}
use Rattle.model.specs.Family.{Deep}
use Rattle.model.specs.Depths.{depth_in}
use Rattle.model.specs.Kept.{FieldsFit, entry_at, Invariant, Covered, Healthy}
use Rattle.model.proofs.Lawful.{Bounds}
use Rattle.model.proofs.Paths.{T→true}
use Rattle.model.proofs.Keeping.{all-at}
use Rattle.model.proofs.Slices.{get_d_slice}
use Rattle.model.proofs.Results.{has_tokens, LeafOfResult, ResultKept, ResultFresh, ResultFreshAt}
use Rattle.model.proofs.Invariant.{node_at}
use Rattle.model.proofs.Sound.{Sound, sound-faultless}
use Rattle.model.proofs.Folding.{Folded, folds}
use Rattle.model.proofs.Pruned as P
use Rattle.model.proofs.Placed.{Placed, grown-placed, pruned-placed}
use Rattle.model.proofs.Settled.{settled-length, settled-placed, settled-fresh}

-- ---- a fresh row's token
-- an element of a part
get_d_within : (s : Span) (rows : List Row) (i : ℕ) → s.first ≤ i → i < s.end → get_or (within s rows) (i - s.first) no_row ≡ get_or rows i no_row
get_d_within s rows i f l = let e : s.first + (i - s.first) ≡ i = omega arith in get_d_slice s.first s.end rows (i - s.first) no_row (omega arith) ∙ ap (λ (k : ℕ). get_or rows k no_row) e

rebased-token : (m : ℤ) (rows : List Row) (i : ℕ) → i < length rows → 0 < length (get_or rows i no_row).toks → tok_of (get_or (rebased m rows) i no_row) 0 ≡ zero_token m (get_or (rebased m rows) i no_row).res
unfolding rebased
rebased-token m [] i h w = absurd (lt_irrefl i (omega arith))
rebased-token m (r ∷ rs) zero h w = get_or-set_same r.toks 0 (zero_token m r.res) 0 w
rebased-token m (r ∷ rs) (suc i) h w = rebased-token m rs i (omega arith) w

fresh-token : (rows : List Row) → fresh true rows ≡ rows → (i : ℕ) → i < length rows → 0 < length (get_or rows i no_row).toks → tok_of (get_or rows i no_row) 0 ≡ zero_token (mode (res_of rows)) (get_or rows i no_row).res
unfolding fresh span_mode
fresh-token rows e i h w = subst (λ (l : List Row). tok_of (get_or l i no_row) 0 ≡ zero_token (mode (res_of rows)) (get_or l i no_row).res) e (rebased-token (mode (res_of rows)) rows i h w)

module _ {M : Meter} where
  pub nodes_of_records : (es : List (Entry M)) → nodes_of (map record_of es) ≡ tree_nodes es
  nodes_of_records es = map-map (λ (r : Record M). r.node) record_of es

  -- ---- the result of a state, with blank entries up to `written`
  module _ (f : State M) (written : ℕ) (flat : M.Total) (short : length f.tree ≤ written) where
    abbrev r : Result M
    r = result_of f written flat

    abbrev vacated : List (Entry M)
    vacated = replicate (written - length f.tree) no_entry

    vacated-length : length (f.tree ++ vacated) ≡ written
    vacated-length = omega (arith, length-append f.tree vacated, length-replicate (written - length f.tree) (no_entry {M = M}))

    pub records-length : (length r.records ≡ written) × (length r.spans ≡ written)
    unfolding result_of
    records-length = (length-map (f.tree ++ vacated) record_of ∙ vacated-length, length-map (f.tree ++ vacated) (λ (e : Entry M). e.span) ∙ vacated-length)

    pub rows-shown : r.rows ≡ f.rows
    unfolding result_of
    rows-shown = refl

    pub count-shown : r.count ≡ length f.tree
    unfolding result_of
    count-shown = refl

    pub tree-shown : take r.count r.records ≡ map record_of f.tree
    unfolding result_of
    tree-shown = ap (take (length f.tree)) (map-append record_of f.tree vacated) ∙ take_at (map record_of f.tree) (map record_of vacated) (length f.tree) (length-map f.tree record_of)

    pub record_shown : (k : ℕ) → k < length f.tree → get_or r.records k blank_record ≡ record_of (entry_at f.tree k)
    unfolding result_of
    record_shown k h = get_or-map record_of (f.tree ++ vacated) k no_entry ∙ ap record_of (get_or-append f.tree vacated no_entry k h)

    pub span-shown : (k : ℕ) → k < length f.tree → get_or r.spans k no_span ≡ (entry_at f.tree k).span
    unfolding result_of
    span-shown k h = get_or-map (λ (e : Entry M). e.span) (f.tree ++ vacated) k no_entry ∙ ap (λ (e : Entry M). e.span) (get_or-append f.tree vacated no_entry k h)

  -- ---- a state that was pruned, settled, or neither
  pub record Done (uses : Bool) (given : List Row) (written : ℕ) (f : State M) : Type 0 where
    pub counted : length f.rows ≡ length given
    pub placed : Placed uses given f.rows f.tree
    pub sound : Sound (map record_of f.tree)
    pub rooted : 0 < length f.tree
    pub shorter : length f.tree ≤ written

  module _ (B : Bounds M) (j : Job M) (seeds : ℕ → Bool) (given : List Row) (s : State M) (inv : Invariant j.uses seeds given s) (ok : Healthy B.Small seeds given s)
      (few : length s.tree ≤ max_nodes) (fair : B.Small 1 (M.total j.price)) where
    abbrev tree : List (Entry M)
    tree = s.tree

    sound_records : (es : List (Entry M)) → Rattle.model.proofs.Sound.Rooted (tree_nodes es) → ((k : ℕ) → k < length es → FieldsFit (entry_at es k).node (entry_at es k).info.pred)
        → Deep (tree_nodes es) (λ (k : ℕ). (entry_at es k).depth) → Sound (map record_of es)
    sound_records es t f d = record {
      rooted = rw (nodes_of_records es) t;
      deep = record {
        root = depth_shown 0 ∙ d.root;
        child = λ a c h. depth_shown c ∙ d.child a c (rw (nodes_of_records es) at h) ∙ ap suc (sym (depth_shown a));
      };
      fits = λ k h. subst (λ (x : Record M). FieldsFit x.node x.info.pred) (sym (get_or-map record_of es k no_entry)) (f k (rw (length-map es record_of) at h));
    }
      where
        depth_shown : (k : ℕ) → depth_in (map record_of es) k ≡ (entry_at es k).depth
        depth_shown k = ap (λ (x : Record M). x.depth) (get_or-map record_of es k no_entry)

    grown_done : Done j.uses given (length tree) s
    grown_done = record {
      counted = ok.counted;
      placed = grown-placed B j.uses seeds given s inv ok;
      sound = sound_records tree (record { family = inv.family; parents = λ k pos h. ok.parents k pos (rw (length-map tree (λ (e : Entry M). e.node)) at h) }) (λ k h. (ok.entries k h).node_fits) ok.deep;
      rooted = inv.rooted;
      shorter = omega arith;
    }

    abbrev cut : State M
    cut = record { rows = s.rows; tree = pruned_tree j.price tree; bits = pruned_bits j.price tree }

    folded_fits : (m n : Node) (pred : ℕ) → Folded m n → FieldsFit m pred → T (ltb pred 14) → FieldsFit n pred
    folded_fits m n pred (inl e) f p = rw e f
    folded_fits m leaf pred (inr t) f p = p
    folded_fits m (split q v g l) pred (inr t) f p = absurd t

    renumbered_fits : (order : List ℕ) (m : Node) (pred : ℕ) → FieldsFit m pred → FieldsFit (renumbered order m) pred
    renumbered_fits order leaf pred f = f
    renumbered_fits order (split p v g l) pred f = f

    cut_done : Done j.uses given (length tree) cut
    unfolding moved
    cut_done = record {
      counted = ok.counted;
      placed = pruned-placed B j.uses seeds given s inv ok j.price fair few;
      sound = sound_records (pruned_tree j.price tree) (P.pruned-family j.price tree inv.family inv.rooted) fits
          (P.pruned-deep j.price tree inv.family inv.rooted ok.deep);
      rooted = P.pruned-rooted j.price tree inv.family inv.rooted;
      shorter = rw (P.length-kept j.price tree inv.family inv.rooted) (P.order-short j.price tree inv.family inv.rooted);
    }
      where
        order : List ℕ
        order = P.order j.price tree inv.family inv.rooted

        fits : (k : ℕ) → k < length (pruned_tree j.price tree) → FieldsFit (entry_at (pruned_tree j.price tree) k).node (entry_at (pruned_tree j.price tree) k).info.pred
        fits k h =
            let i : k < length order = rw (P.length-kept j.price tree inv.family inv.rooted) at h in
            let n = get_or order k 0 in
            let low = P.old-number j.price tree inv.family inv.rooted k i in
            let e = ok.entries n low in
            subst (λ (x : Entry M). FieldsFit x.node x.info.pred) (sym (P.entry_kept j.price tree inv.family inv.rooted k i))
            (renumbered_fits order (get_or (pruned_nodes j.price tree) n leaf) (entry_at tree n).info.pred
            (folded_fits (get_or (tree_nodes tree) n leaf) (get_or (pruned_nodes j.price tree) n leaf) (entry_at tree n).info.pred (folds j.price tree n)
            (subst (λ (m : Node). FieldsFit m (entry_at tree n).info.pred) (sym (node_at tree n)) e.node_fits) e.pred_fits))

    pub pruned_done : Done j.uses given (length tree) (pruned j s)
    unfolding pruned
    pruned_done = search (arith, cut_done, grown_done)

    settled_done : (f : State M) → Done j.uses given (length tree) f → Done j.uses given (length tree) (settled_state j f)
    unfolding settled_state
    settled_done f d = search (arith, settled-length, settled-placed)

    pub finished_done : Done j.uses given (length tree) (settled_state j (pruned j s))
    finished_done = settled_done (pruned j s) pruned_done

    -- ---- tokens: fresh in every leaf's span, if the tree is settled or not pruned
    pub finished_fresh : T j.settling ⊎ (prunes j ≡ false) → (k : ℕ) → k < length (settled_state j (pruned j s)).tree → T (is_leaf (entry_at (settled_state j (pruned j s)).tree k).node)
        → fresh j.uses (within (entry_at (settled_state j (pruned j s)).tree k).span (settled_state j (pruned j s)).rows) ≡ within (entry_at (settled_state j (pruned j s)).tree k).span (settled_state j (pruned j s)).rows
    unfolding settled_state pruned
    finished_fresh h = search (arith, pruned_done, settled-fresh)

    -- ---- the result
    abbrev done : State M
    done = settled_state j (pruned j s)

    leaf_shown : (flat : M.Total) (k : ℕ) → LeafOfResult (result_of done (length tree) flat) k → (k < length done.tree) × T (is_leaf (entry_at done.tree k).node)
    unfolding result_of
    leaf_shown flat k lf = (lf.0, subst (λ (x : Record M). T (is_leaf x.node)) (record_shown done (length tree) flat finished_done.shorter k lf.0) lf.1)

    -- the result's tree is sound
    faultless : fault_of (map record_of done.tree) ≡ none
    faultless =
        let n = length-map done.tree record_of in
        sound-faultless (map record_of done.tree) finished_done.sound (omega (arith, n, finished_done.rooted)) (omega (arith, n, finished_done.shorter, few))

    pub finished_kept : (flat : M.Total) (most : ℕ) → length tree ≤ most → ((p : Row → Bool) → ((z : ℕ) (w : Row) → p (with_zero z w) ≡ p w) → T (all p given) → T (all p done.rows))
        → ResultKept j.uses given most (result_of done (length tree) flat)
    finished_kept flat most le formed = record {
      counted = rw rows_are finished_done.counted;
      formed = rw rows_are formed;
      paired = n.1 ∙ sym n.0;
      inside = omega (arith, n.0, count_is, finished_done.shorter);
      few = omega (arith, n.0);
      sound = rw tree_is faultless;
      bounds = λ k lf. let l = leaf_shown flat k lf in rw (span-shown done (length tree) flat finished_done.shorter k l.0, rows_are) (finished_done.placed.bounds k l.0);
      holds = λ k lf. let l = leaf_shown flat k lf in rw (span-shown done (length tree) flat finished_done.shorter k l.0, tree_is, nodes_of_records done.tree, rows_are) (finished_done.placed.holds k l.0 l.1);
    }
      where
        n : (length (result_of done (length tree) flat).records ≡ length tree) × (length (result_of done (length tree) flat).spans ≡ length tree)
        n = records-length done (length tree) flat finished_done.shorter

        tree_is : take (result_of done (length tree) flat).count (result_of done (length tree) flat).records ≡ map record_of done.tree
        tree_is = tree-shown done (length tree) flat finished_done.shorter

        rows_are : (result_of done (length tree) flat).rows ≡ done.rows
        rows_are = rows-shown done (length tree) flat finished_done.shorter

        count_is : (result_of done (length tree) flat).count ≡ length done.tree
        count_is = count-shown done (length tree) flat finished_done.shorter

    -- every place's token is fresh, if the tree is settled or not pruned
    pub finished_tokens : (flat : M.Total) → T j.uses → T (all has_tokens done.rows) → T j.settling ⊎ (prunes j ≡ false) → ResultFresh (result_of done (length tree) flat)
    finished_tokens flat uses wide h i inside = at (finished_done.placed.covered i (rw (rows-shown done (length tree) flat finished_done.shorter) at inside))
      where
        at : Covered done.tree i → ResultFreshAt (result_of done (length tree) flat) i
        at (k, l, t, a, b) = record {
          leaf_number = k;
          is_leaf = (rw (count-shown done (length tree) flat finished_done.shorter) l, rw (record_shown done (length tree) flat finished_done.shorter k l) t);
          inside = rw sp (a, b);
          token = rw (sp, rows-shown done (length tree) flat finished_done.shorter) (rw (get_d_within span done.rows i a b) at (fresh-token (within span done.rows) fresh_here (i - span.first) low (rw (get_d_within span done.rows i a b) (ltb→lt 0 _ (all-at has_tokens done.rows i no_row (rw (rows-shown done (length tree) flat finished_done.shorter) at inside) wide)))));
        }
          where
            span : Span
            span = (entry_at done.tree k).span

            sp : get_or (result_of done (length tree) flat).spans k no_span ≡ span
            sp = span-shown done (length tree) flat finished_done.shorter k l

            low : i - span.first < length (within span done.rows)
            low = omega (arith, length-slice span.first span.end done.rows (finished_done.placed.bounds k l).1, a, b)

            fresh_here : fresh true (within span done.rows) ≡ within span done.rows
            fresh_here = subst (λ (u : Bool). fresh u (within span done.rows) ≡ within span done.rows) (T→true j.uses uses) (finished_fresh h k l t)
