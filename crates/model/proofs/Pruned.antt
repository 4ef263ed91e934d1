-- Lookups and spans of a pruned tree. Assumes nothing.
use mathlib.Core.Path.{◌≡◌, refl, sym, ap, ◌∙◌, subst}
use mathlib.Core.Logic.{◌≢◌, ◌⊎◌, inl, inr}
use Prim.Native.Nat.{ℕ, zero, suc, ◌+◌, ◌-◌, ◌≤◌, ◌<◌}
use native.Mathlib.Nat.{lt_irrefl, zero-add}
use native.Mathlib.Omega.{arith}
use native.Mathlib.Decide.{ℕ_discrete, dec_lt}
use mathlib.Core.Bool.{Bool, true, false, ◌||◌}
use mathlib.Core.List.Memᴰ
use mathlib.Core.List.{List, map, map-map, Memᴰ}
use lib.ListN.{length, get_or, length-map, get_or-map, get_or-eq_default}
use lib.IntN.{ℤ}
use lib.Dec.{T, eqb, eqb→eq}
use Rattle.model.specs.Meter.{Meter}
use Rattle.model.specs.Tree.{Node, split, leaf, is_leaf, towards, follow, reach, leaf_reached}
use Rattle.model.specs.Grow.{Entry, no_entry, tree_nodes}
use Rattle.model.specs.Prune.{preorder, place_of, renumbered, moved, pruned_nodes, pruned_tree}
use Rattle.model.specs.Family.{Forward, AllForward, ChildOf, Child, Twins, Family, Deep, Anc, parent, under, meets}
use Rattle.model.specs.Kept.{entry_at}
use Rattle.model.proofs.Places.{get_d_any}
use Rattle.model.proofs.Paths.{eqb_same, eqb-other, towards_in}
use Rattle.model.proofs.Family.{leaf_no_child, child-forward, towards-child}
use Rattle.model.proofs.Preorder.{place_at, place-of, mem_get_d, pre-range, root_in, pre-closed, pre-parent, pre_no_repeat, place-forward}
use Rattle.model.proofs.Sound.{Rooted}
use Rattle.model.proofs.Tally.{short}
use Rattle.model.proofs.Renumbered as R
use Rattle.model.proofs.Folding.{Folded, folds, length-pruned}

-- more steps than nodes are left change nothing
pub reach-more : (nodes : List Node) → AllForward nodes → (ps : List ℤ) (fuel i : ℕ) → i < length nodes → length nodes ≤ i + fuel → reach (suc fuel) nodes ps i ≡ reach fuel nodes ps i
unfolding reach
reach-more nodes fw ps zero i h b = absurd (lt_irrefl i (omega arith))
reach-more nodes fw ps (suc fuel) i h b = go (get_or nodes i leaf) (fw i h) (λ c hc. reach-more nodes fw ps fuel c hc)
  where
    go : (m : Node) → Forward (length nodes) i m → ((c : ℕ) → c < length nodes → length nodes ≤ c + fuel → reach (suc fuel) nodes ps c ≡ reach fuel nodes ps c)
        → follow ps i (λ (c : ℕ). reach (suc fuel) nodes ps c) m ≡ follow ps i (λ (c : ℕ). reach fuel nodes ps c) m
    go leaf f ih = refl
    go (split prop val gt le) f ih = let t = towards_in ps (length nodes) i prop val gt le f in ih (towards ps prop val gt le) t.1 (omega arith)

pub reach_much_more : (nodes : List Node) → AllForward nodes → (ps : List ℤ) (more fuel i : ℕ) → i < length nodes → length nodes ≤ i + fuel → reach (more + fuel) nodes ps i ≡ reach fuel nodes ps i
reach_much_more nodes fw ps zero fuel i h b = ap (λ (f : ℕ). reach f nodes ps i) (zero-add fuel)
reach_much_more nodes fw ps (suc more) fuel i h b = let e : suc more + fuel ≡ suc (more + fuel) = omega arith in
    ap (λ (f : ℕ). reach f nodes ps i) e ∙ reach-more nodes fw ps (more + fuel) i h (omega arith) ∙ reach_much_more nodes fw ps more fuel i h b

head-is : (nodes : List Node) (f r : ℕ) → 0 < f → get_or (preorder f nodes r) 0 0 ≡ r
unfolding preorder
head-is nodes zero r h = absurd (lt_irrefl 0 h)
head-is nodes (suc f) r h = refl

folded-child : (n m : Node) (c : ℕ) → Folded n m → ChildOf m c → ChildOf n c
folded-child n m c (inl e) h = rw e at h
folded-child n m c (inr t) h = absurd (leaf_no_child m c t h)

module _ {M : Meter} where
  module _ (price : M.Cost) (tree : List (Entry M)) (fam : Family (tree_nodes tree)) (rooted : 0 < length tree) where
    abbrev old : List Node
    old = tree_nodes tree

    abbrev pn : List Node
    pn = pruned_nodes price tree

    length-pn : length pn ≡ length old
    length-pn = length-pruned price tree

    child-old : (a c : ℕ) → Child pn a c → Child old a c
    child-old a c h = folded-child (get_or old a leaf) (get_or pn a leaf) c (folds price tree a) h

    pn-family : Family pn
    pn-family = search (arith, length-pn, folds)

    abbrev n : ℕ
    n = length pn

    abbrev pub order : List ℕ
    order = preorder n pn 0

    in_n : 0 < n
    in_n = omega (arith, length-pn, length-map tree (λ (e : Entry M). e.node))

    pub root-there : Memᴰ 0 order
    root-there = root_in pn pn-family n 0 in_n (omega arith)

    pub closed : (x c : ℕ) → Memᴰ x order → Child pn x c → Memᴰ c order
    closed x c m h = pre-closed pn pn-family n 0 x c in_n (omega arith) m h

    -- a kept node's old parent is kept, with it as a child
    up : (x a : ℕ) → Memᴰ x order → Child old a x → Memᴰ a order × Child pn a x
    up x a m h = search (arith, pre-parent, pn-family, child-forward, child-old)

    -- no pruned leaf lies above a kept node
    pub anc_kept_split : (a x : ℕ) → Memᴰ x order → T (is_leaf (get_or pn a leaf)) → Anc old a x → ⊥
    anc_kept_split a x m t (parent h) = leaf_no_child (get_or pn a leaf) x t (up x a m h).1
    anc_kept_split a x m t (under {b} u h) = anc_kept_split a b (up x b m h).0 t u

    -- a way that meets a kept node is all kept down to it
    meets-kept : (ps : List ℤ) (x : ℕ) → Memᴰ x order → (fuel d : ℕ) → T (meets fuel old ps x d) → Memᴰ d order
    unfolding meets
    meets-kept ps x m zero d t = Memᴰ.cast (eqb→eq d x t) m
    meets-kept ps x m (suc fuel) d t = go (eqb d x) (eqb→eq d x) (get_or old d leaf) refl t (λ c u. meets-kept ps x m fuel c u)
      where
        go : (b : Bool) → (T b → d ≡ x) → (q : Node) → get_or old d leaf ≡ q → T (b || follow ps false (λ (c : ℕ). meets fuel old ps x c) q) → ((c : ℕ) → T (meets fuel old ps x c) → Memᴰ c order) → Memᴰ d order
        go true e q z t ih = Memᴰ.cast (e tt) m
        go false e leaf z t ih = absurd t
        go false e (split p v g l) z t ih = (up (towards ps p v g l) d (ih (towards ps p v g l) t) (rw z (towards-child ps p v g l))).0

    -- a pruned leaf that is kept is met exactly where the pruned lookup reaches it
    pub meets-pruned : (ps : List ℤ) (x : ℕ) → Memᴰ x order → T (is_leaf (get_or pn x leaf)) → (fuel c : ℕ) → Memᴰ c order → meets fuel old ps x c ≡ eqb (reach fuel pn ps c) x
    unfolding meets reach
    meets-pruned ps x m t zero c mc = refl
    meets-pruned ps x m t (suc fuel) c mc = elim (ℕ_discrete c x) [ yes e ↦ here e | no ne ↦ rw (eqb-other c x ne) (there ne (get_or pn c leaf) refl (folds price tree c) (get_or old c leaf) refl (λ d md. meets-pruned ps x m t fuel d md)) ]
      where
        stays : (q : Node) → T (is_leaf q) → follow ps x (λ (d : ℕ). reach fuel pn ps d) q ≡ x
        stays leaf u = refl
        stays (split p v g l) u = absurd u

        here : c ≡ x → (eqb c x || follow ps false (λ (d : ℕ). meets fuel old ps x d) (get_or old c leaf)) ≡ eqb (follow ps c (λ (d : ℕ). reach fuel pn ps d) (get_or pn c leaf)) x
        here e = rw (e, eqb_same, stays (get_or pn x leaf) t, eqb_same) refl

        false_if : (b : Bool) → (T b → ⊥) → b ≡ false
        false_if true f = absurd (f tt)
        false_if false f = refl

        there : c ≢ x → (q : Node) → get_or pn c leaf ≡ q → Folded (get_or old c leaf) (get_or pn c leaf) → (r : Node) → get_or old c leaf ≡ r
            → ((d : ℕ) → Memᴰ d order → meets fuel old ps x d ≡ eqb (reach fuel pn ps d) x)
            → follow ps false (λ (d : ℕ). meets fuel old ps x d) r ≡ eqb (follow ps c (λ (d : ℕ). reach fuel pn ps d) q) x
        there ne leaf z f leaf w ih = sym (eqb-other c x ne)
        there ne leaf z f (split p' v g l) w ih =
            false_if (meets fuel old ps x (towards ps p' v g l)) (λ u. leaf_no_child (get_or pn c leaf) (towards ps p' v g l) (rw z tt)
            (up (towards ps p' v g l) c (meets-kept ps x m fuel (towards ps p' v g l) u) (rw w (towards-child ps p' v g l))).1) ∙ sym (eqb-other c x ne)
        there ne (split p v g l) z (inr u) r w ih = absurd (subst (λ (y : Node). T (is_leaf y)) z u)
        there ne (split p v g l) z (inl e) r w ih =
            let q : r ≡ split p v g l = sym w ∙ sym e ∙ z in
            rw q (ih (towards ps p v g l) (closed c (towards ps p v g l) mc (rw z (towards-child ps p v g l))))

    -- ---- the new numbers
    abbrev pub kept : List (Entry M)
    kept = pruned_tree price tree

    abbrev new : List Node
    new = tree_nodes kept

    abbrev as_new : ℕ → Node
    as_new i = renumbered order (get_or pn i leaf)

    new_is : new ≡ map as_new order
    unfolding pruned_tree moved
    new_is = map-map (λ (e : Entry M). e.node) (moved tree pn order) order

    pub length-kept : length kept ≡ length order
    unfolding pruned_tree
    length-kept = length-map order (moved tree pn order)

    length-new : length new ≡ length order
    length-new = length-map kept (λ (e : Entry M). e.node) ∙ length-kept

    no_repeat : Rattle.model.proofs.Preorder.NoRepeat order
    no_repeat = pre_no_repeat pn pn-family n 0 in_n

    new-at : (q : ℕ) → q < length order → get_or new q leaf ≡ as_new (get_or order q 0)
    new-at q h = rw new_is (R.new-at pn order closed q h)

    new-place : (c : ℕ) → Memᴰ c order → get_or new (place_of c order) leaf ≡ as_new c
    new-place c m = rw new_is (R.new-place pn order closed c m)

    reach-new : (ps : List ℤ) (fuel c : ℕ) → Memᴰ c order → reach fuel new ps (place_of c order) ≡ place_of (reach fuel pn ps c) order
    reach-new ps fuel c m = rw new_is (R.reach-new pn order closed ps fuel c m)

    new-forward : AllForward new
    new-forward q h = rw (length-new, new-at q h') (go (get_or pn i leaf) refl)
      where
        h' : q < length order
        h' = rw length-new at h

        i : ℕ
        i = get_or order q 0

        mi : Memᴰ i order
        mi = mem_get_d order q h'

        here : place_of i order ≡ q
        here = place-of order no_repeat q h'

        child : (c : ℕ) → Child pn i c → (q < place_of c order) × (place_of c order < length order)
        child c k = (rw here at (place-forward pn pn-family n 0 i c in_n (omega arith) mi k), (place_at c order (closed i c mi k)).0)

        go : (m : Node) → get_or pn i leaf ≡ m → Forward (length order) q (renumbered order m)
        go leaf z = tt
        go (split p v g l) z = let a = child g (rw z (inl refl)) in let b = child l (rw z (inr refl)) in (a.0, b.0, a.1, b.1)

    pub root-first : place_of 0 order ≡ 0
    root-first = ap (λ (x : ℕ). place_of x order) (sym (head-is pn n 0 in_n)) ∙ place-of order no_repeat 0 (omega (arith, (place_at 0 order root-there).0))

    reached-new : (ps : List ℤ) → leaf_reached new ps ≡ place_of (reach n pn ps 0) order
    unfolding leaf_reached
    reached-new ps = elim (dec_lt n (length new)) [ yes h ↦ longer h | no h ↦ shorter (omega arith) ]
      where
        at : (f : ℕ) → reach f new ps 0 ≡ place_of (reach f pn ps 0) order
        at f = ap (λ (x : ℕ). reach f new ps x) (sym root-first) ∙ reach-new ps f 0 root-there

        there : 0 < length new
        there = omega (arith, length-new, (place_at 0 order root-there).0)

        longer : n < length new → reach (length new) new ps 0 ≡ place_of (reach n pn ps 0) order
        longer h = let e : length new ≡ (length new - n) + n = omega arith in
            at (length new) ∙ ap (λ (x : ℕ). place_of x order) (ap (λ (f : ℕ). reach f pn ps 0) e ∙ reach_much_more pn pn-family.forward ps (length new - n) n 0 in_n (omega arith))

        shorter : length new ≤ n → reach (length new) new ps 0 ≡ place_of (reach n pn ps 0) order
        shorter h = let e : n ≡ (n - length new) + length new = omega arith in
            sym (ap (λ (f : ℕ). reach f new ps 0) e ∙ reach_much_more new new-forward ps (n - length new) (length new) 0 there (omega arith)) ∙ at n

    -- a leaf of the pruned tree is reached exactly where the old way meets the node that it was
    pub reaching_new : (ps : List ℤ) (q : ℕ) → q < length order → T (is_leaf (get_or pn (get_or order q 0) leaf)) → eqb (leaf_reached new ps) q ≡ meets (length old) old ps (get_or order q 0) 0
    reaching_new ps q h t = rw (reached-new ps) (same ∙ sym (ap (λ (f : ℕ). meets f old ps i 0) (sym length-pn) ∙ meets-pruned ps i (mem_get_d order q h) t n 0 root-there))
      where
        i : ℕ
        i = get_or order q 0

        y : ℕ
        y = reach n pn ps 0

        my : Memᴰ y order
        my = R.reach_in pn order closed ps n 0 root-there

        same : eqb (place_of y order) q ≡ eqb y i
        same = elim (ℕ_discrete y i) [
          | yes e ↦ rw (e, place-of order no_repeat q h, eqb_same q, eqb_same i) refl
          | no ne ↦ eqb-other (place_of y order) q (λ (z : place_of y order ≡ q). ne (sym (place_at y order my).1 ∙ ap (λ (k : ℕ). get_or order k 0) z)) ∙ sym (eqb-other y i ne)
        ]

    pub found-again : (q : ℕ) → q < length order → place_of (get_or order q 0) order ≡ q
    found-again q h = place-of order no_repeat q h

    -- ---- the entry under a new number
    pub entry_kept : (q : ℕ) → q < length order → entry_at kept q ≡ moved tree pn order (get_or order q 0)
    unfolding pruned_tree
    entry_kept q h = get_d_any (map (moved tree pn order) order) q no_entry (moved tree pn order 0) (rw (length-map order (moved tree pn order)) h) ∙ get_or-map (moved tree pn order) order q 0

    pub span_kept : (q : ℕ) → q < length order → (entry_at kept q).span ≡ (entry_at tree (get_or order q 0)).span
    unfolding moved
    span_kept q h = ap (λ (e : Entry M). e.span) (entry_kept q h)

    pub leaf-kept : (q : ℕ) → q < length order → T (is_leaf (entry_at kept q).node) → T (is_leaf (get_or pn (get_or order q 0) leaf))
    unfolding moved
    leaf-kept q h t = search (arith, entry_kept)

    pub leaf-again : (q : ℕ) → q < length order → T (is_leaf (get_or pn (get_or order q 0) leaf)) → T (is_leaf (entry_at kept q).node)
    unfolding moved
    leaf-again q h t = search (arith, entry_kept)

    pub old-number : (q : ℕ) → q < length order → get_or order q 0 < length tree
    old-number q h = let r = pre-range pn pn-family n 0 (get_or order q 0) in_n (mem_get_d order q h) in omega (arith, length-pn, length-map tree (λ (e : Entry M). e.node))

    pub other-number : (q r : ℕ) → q < length order → r < length order → q ≢ r → get_or order q 0 ≢ get_or order r 0
    other-number q r hq hr ne = λ (e : get_or order q 0 ≡ get_or order r 0). ne (sym (place-of order no_repeat q hq) ∙ ap (λ (x : ℕ). place_of x order) e ∙ place-of order no_repeat r hr)

    pub not-above : (q r : ℕ) → q < length order → r < length order → T (is_leaf (get_or pn (get_or order q 0) leaf)) → Anc old (get_or order q 0) (get_or order r 0) → ⊥
    not-above q r hq hr t u = anc_kept_split (get_or order q 0) (get_or order r 0) (mem_get_d order r hr) t u

    -- ---- the pruned tree is a tree
    pub order-short : length order ≤ length tree
    order-short = let s = short n order no_repeat (λ x m. (pre-range pn pn-family n 0 x in_n m).1) in omega (arith, length-pn, length-map tree (λ (e : Entry M). e.node))

    new-child : (q d : ℕ) → Child new q d → (q < length order) × ((c : ℕ) × Child pn (get_or order q 0) c × Memᴰ c order × (d ≡ place_of c order))
    new-child q d h = elim (dec_lt q (length order)) [ yes i ↦ (i, go i (get_or pn (get_or order q 0) leaf) refl (subst (λ (m : Node). ChildOf m d) (new-at q i) h)) | no i ↦ absurd (beyond (omega arith)) ]
      where
        beyond : length order ≤ q → ⊥
        beyond i = subst (λ (m : Node). ChildOf m d) (get_or-eq_default new leaf (omega (arith, length-new))) h

        go : q < length order → (m : Node) → get_or pn (get_or order q 0) leaf ≡ m → ChildOf (renumbered order m) d → (c : ℕ) × Child pn (get_or order q 0) c × Memᴰ c order × (d ≡ place_of c order)
        go i leaf z k = absurd k
        go i (split p v g l) z (inl e) = let w = subst (λ (m : Node). ChildOf m g) (sym z) (inl refl) in (g, w, closed (get_or order q 0) g (mem_get_d order q i) w, e)
        go i (split p v g l) z (inr e) = let w = subst (λ (m : Node). ChildOf m l) (sym z) (inr refl) in (l, w, closed (get_or order q 0) l (mem_get_d order q i) w, e)

    pub same_place : (c d : ℕ) → Memᴰ c order → Memᴰ d order → place_of c order ≡ place_of d order → c ≡ d
    same_place = R.same_place pn order closed

    new_one_parent : (a b d : ℕ) → Child new a d → Child new b d → a ≡ b
    new_one_parent a b d h k =
        let p = new-child a d h in
        let q = new-child b d k in
        let e = same_place p.1.0 q.1.0 p.1.2 q.1.2 (sym p.1.3 ∙ q.1.3) in
        let z = pn-family.one_parent (get_or order a 0) (get_or order b 0) q.1.0 (subst (λ (c : ℕ). Child pn (get_or order a 0) c) e p.1.1) q.1.1 in
        sym (place-of order no_repeat a p.0) ∙ ap (λ (x : ℕ). place_of x order) z ∙ place-of order no_repeat b q.0

    new_two_children : (q : ℕ) → Twins (get_or new q leaf)
    new_two_children q = elim (dec_lt q (length order)) [ yes i ↦ rw (new-at q i) (go i (get_or pn (get_or order q 0) leaf) refl) | no i ↦ beyond (omega arith) ]
      where
        beyond : length order ≤ q → Twins (get_or new q leaf)
        beyond i = let h : length new ≤ q = omega (arith, length-new) in rw (get_or-eq_default new leaf h) tt

        go : q < length order → (m : Node) → get_or pn (get_or order q 0) leaf ≡ m → Twins (renumbered order m)
        go i leaf z = tt
        go i (split p v g l) z = λ (e : place_of g order ≡ place_of l order).
            subst Twins z (pn-family.two_children (get_or order q 0))
            (same_place g l (closed (get_or order q 0) g (mem_get_d order q i) (rw z (inl refl))) (closed (get_or order q 0) l (mem_get_d order q i) (rw z (inr refl))) e)

    renumbered-child : (m : Node) (c : ℕ) → ChildOf m c → ChildOf (renumbered order m) (place_of c order)
    renumbered-child leaf c h = h
    renumbered-child (split p v g l) c (inl e) = inl (ap (λ (x : ℕ). place_of x order) e)
    renumbered-child (split p v g l) c (inr e) = inr (ap (λ (x : ℕ). place_of x order) e)

    new-parents : (q : ℕ) → 0 < q → q < length new → (a : ℕ) × Child new a q
    new-parents q first h = go (pre-parent pn pn-family n 0 i (mem_get_d order q h'))
      where
        h' : q < length order
        h' = rw length-new at h

        i : ℕ
        i = get_or order q 0

        here : place_of i order ≡ q
        here = place-of order no_repeat q h'

        go : (i ≡ 0) ⊎ ((p : ℕ) × Memᴰ p order × Child pn p i) → (a : ℕ) × Child new a q
        go (inl e) = absurd (lt_irrefl 0 (let z : q ≡ 0 = sym here ∙ ap (λ (x : ℕ). place_of x order) e ∙ root-first in omega arith))
        go (inr k) = (place_of k.0 order, rw (new-place k.0 k.1) (subst (λ (d : ℕ). ChildOf (as_new k.0) d) here (renumbered-child (get_or pn k.0 leaf) i k.2)))

    pub pruned-family : Rooted new
    pruned-family = record { family = record { forward = new-forward; one_parent = new_one_parent; two_children = new_two_children }; parents = new-parents }

    -- a child lies one deeper than its parent, as it did
    pub pruned-deep : Deep old (λ (k : ℕ). (entry_at tree k).depth) → Deep new (λ (k : ℕ). (entry_at kept k).depth)
    unfolding moved
    pruned-deep deep = record { root = depth-kept 0 (omega (arith, (place_at 0 order root-there).0)) ∙ ap (λ (k : ℕ). (entry_at tree k).depth) first ∙ deep.root; child = go }
      where
        depth-kept : (q : ℕ) → q < length order → (entry_at kept q).depth ≡ (entry_at tree (get_or order q 0)).depth
        depth-kept q h = ap (λ (x : Entry M). x.depth) (entry_kept q h)

        first : get_or order 0 0 ≡ 0
        first = ap (λ (k : ℕ). get_or order k 0) (sym root-first) ∙ (place_at 0 order root-there).1

        go : (q d : ℕ) → Child new q d → (entry_at kept d).depth ≡ suc (entry_at kept q).depth
        go q d h =
            let p = new-child q d h in
            let c = p.1.0 in
            let at = place_at c order p.1.2 in
            let z : get_or order d 0 ≡ c = ap (λ (k : ℕ). get_or order k 0) p.1.3 ∙ at.1 in
            let l : d < length order = omega (arith, at.0, p.1.3) in
            depth-kept d l ∙ ap (λ (k : ℕ). (entry_at tree k).depth) z ∙ deep.child (get_or order q 0) c (child-old (get_or order q 0) c p.1.1) ∙ ap suc (sym (depth-kept q p.0))

    pub pruned-rooted : 0 < length kept
    pruned-rooted = omega (arith, length-kept, (place_at 0 order root-there).0)
