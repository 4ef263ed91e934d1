-- Growth keeps what is asked besides the invariant: fields in range, small costs, a parent for each node but the first, spans within the parent's, depths one more
-- than the parent's, and every place in the span of a leaf. Assumes nothing.
use mathlib.Core.Path.{◌≡◌, refl, ap, ◌∙◌, subst}
use mathlib.Core.Logic.{◌≢◌, ◌⊎◌, inl, inr}
use Prim.Native.Nat.{ℕ, zero, suc, ◌+◌, ◌*◌, ◌≤◌, ◌<◌}
use native.Mathlib.Omega.{arith}
use native.Mathlib.Decide.{ℕ_discrete, dec_lt}
use mathlib.Core.Bool.{Bool, false}
use mathlib.Core.List.{List}
use lib.ListN.{length, length-map}
use lib.IntN.{ℤ}
use lib.Dec.{T, ltb}
use Rattle.model.specs.Meter.{Meter}
use Rattle.model.specs.Settings.{props_per_row}
use Rattle.model.specs.Rows.{Row, Span}
use Rattle.model.specs.Mode.{span_mode}
use Rattle.model.specs.Tree.{is_leaf}
use Rattle.model.specs.Job.{Offer, Job}
use Rattle.model.specs.Grow.{Entry, State, tree_nodes, leaf_over, gt_rows, le_rows, gt_span, le_span, gt_leaf, le_leaf, become_split, split_at, step, steps}
use Rattle.model.specs.Learn.{root_state}
use Rattle.model.specs.Accepting.{JobFits}
use Rattle.model.specs.Family.{Child}
use Rattle.model.specs.Kept.{entry_at, Invariant, OfferInRange, EntryFits, Covered, Nested, Healthy}
use Rattle.model.proofs.Lawful.{Bounds}
use Rattle.model.proofs.Extended.{new-cases}
use Rattle.model.proofs.Fresh.{length-fresh}
use Rattle.model.proofs.Family.{child-forward}
use Rattle.model.proofs.Invariant.{SplitOf, split_of, few_parted}
use Rattle.model.proofs.Steps.{OneSplit, step_is, step_keeps, steps-keep}

module _ {M : Meter} where
  pub leaf_over-fits : (B : Bounds M) (j : Job M) (most : ℕ) → JobFits B.Small j most → (rows : List Row) (mode : ℤ) (s : Span) (depth : ℕ) → EntryFits (leaf_over j rows mode s depth)
  unfolding leaf_over
  leaf_over-fits B j most fit rows mode s depth = search arith

  pub leaf_over-small : (B : Bounds M) (j : Job M) (most : ℕ) → JobFits B.Small j most → (rows : List Row) (mode : ℤ) (s : Span) (depth : ℕ) → length rows ≤ most → B.Small 1 (M.total (leaf_over j rows mode s depth).info.cost)
  unfolding leaf_over
  leaf_over-small B j most fit rows mode s depth h = fit.cost_small mode rows h

  -- ---- one split
  module _ (B : Bounds M) (seeds : ℕ → Bool) (given : List Row) (s t : State M) (i : ℕ) (o : Offer M) (gt le : Entry M) (uses : Bool) (f : SplitOf uses s t i o gt le) (ok : Healthy B.Small seeds given s)
      (inside : i < length s.tree) (own : T (is_leaf (entry_at s.tree i).node) × (seeds i ≡ false)) (own_new : (seeds (length s.tree) ≡ false) × (seeds (suc (length s.tree)) ≡ false))
      (prop : T (ltb o.prop props_per_row)) (fits : EntryFits gt × EntryFits le) (small : B.Small 1 (M.total gt.info.cost) × B.Small 1 (M.total le.info.cost)) (forward : (a c : ℕ) → Child (tree_nodes s.tree) a c → (a < c) × (c < length s.tree))
      (deeper : (gt.depth ≡ suc (entry_at s.tree i).depth) × (le.depth ≡ suc (entry_at s.tree i).depth)) where
    abbrev n : ℕ
    n = length s.tree

    abbrev e : Entry M
    e = entry_at s.tree i

    becomes-fit : EntryFits (become_split e o n)
    unfolding become_split
    becomes-fit = record { node_fits = prop; pred_fits = (ok.entries i inside).pred_fits; offer_fits = tt }

    becomes-cost : (become_split e o n).info.cost ≡ e.info.cost
    unfolding become_split
    becomes-cost = refl

    entries' : (k : ℕ) → k < suc (suc n) → EntryFits (entry_at t.tree k)
    entries' = new-cases {P = λ (k : ℕ). EntryFits (entry_at t.tree k)} n i
        (λ k h ne. rw (f.old k h ne) (ok.entries k h)) (rw f.at becomes-fit) (rw f.at_gt fits.0) (rw f.at_le fits.1)

    costs' : (k : ℕ) → k < suc (suc n) → seeds k ≡ false → B.Small 1 (M.total (entry_at t.tree k).info.cost)
    costs' = new-cases {P = λ (k : ℕ). seeds k ≡ false → B.Small 1 (M.total (entry_at t.tree k).info.cost)} n i
        (λ k h ne. rw (f.old k h ne) (ok.costs k h)) (rw (f.at, becomes-cost) (ok.costs i inside)) (λ q. rw f.at_gt small.0) (λ q. rw f.at_le small.1)

    parents' : (k : ℕ) → k < suc (suc n) → 0 < k → (a : ℕ) × Child (tree_nodes t.tree) a k
    parents' = new-cases {P = λ (k : ℕ). 0 < k → (a : ℕ) × Child (tree_nodes t.tree) a k} n i
        (λ k h ne pos. kept k (ok.parents k pos h)) (λ pos. kept i (ok.parents i pos inside)) (λ pos. (i, f.new.0)) (λ pos. (i, f.new.1))
      where
        kept : (k : ℕ) → (a : ℕ) × Child (tree_nodes s.tree) a k → (a : ℕ) × Child (tree_nodes t.tree) a k
        kept k p = (p.0, f.kept p.0 k p.1)

    covered' : (p : ℕ) → p < length t.rows → Covered t.tree p
    covered' p h = go (ok.covered p (rw f.same_count at h))
      where
        old : (k : ℕ) → k < n → T (is_leaf (entry_at s.tree k).node) → ((entry_at s.tree k).span.first ≤ p) → (p < (entry_at s.tree k).span.end) → k ≢ i → Covered t.tree p
        old k h l a b ne = (k, omega (arith, f.longer), rw (f.old k h ne) l, rw (f.old k h ne) a, rw (f.old k h ne) b)

        gt-covers : e.span.first ≤ p → p < le.span.first → Covered t.tree p
        gt-covers a b = (n, omega (arith, f.longer), rw f.at_gt f.leaves.0, rw f.at_gt (omega (arith, f.gt_span_lem)), rw f.at_gt (omega (arith, f.gt_span_lem)))

        le-covers : le.span.first ≤ p → p < e.span.end → Covered t.tree p
        le-covers a b = (suc n, omega (arith, f.longer), rw f.at_le f.leaves.1, rw f.at_le a, rw f.at_le (omega (arith, f.le_span_lem)))

        here : (k : ℕ) → k ≡ i → ((entry_at s.tree k).span.first ≤ p) → (p < (entry_at s.tree k).span.end) → Covered t.tree p
        here k q a b = elim (dec_lt p le.span.first) [ yes l ↦ gt-covers (rw q at a) l | no l ↦ le-covers (omega arith) (rw q at b) ]

        go : Covered s.tree p → Covered t.tree p
        go c = elim (ℕ_discrete c.0 i) [ yes q ↦ here c.0 q c.3 c.4 | no ne ↦ old c.0 c.1 c.2 c.3 c.4 ne ]

    nested' : (a c : ℕ) → Child (tree_nodes t.tree) a c → seeds a ≡ false → Nested t.tree a c
    nested' a c h q = go (f.children a c h)
      where
        at_i : (x : Entry M) → entry_at t.tree c ≡ x → a ≡ i → (e.span.first ≤ x.span.first) → (x.span.end ≤ e.span.end) → Nested t.tree a c
        at_i x z y l r = rw (z, y, f.same_spans i inside) (l, r)

        go : ((a ≡ i) × ((c ≡ n) ⊎ (c ≡ suc n))) ⊎ Child (tree_nodes s.tree) a c → Nested t.tree a c
        go (inl (y, inl z)) = at_i gt (ap (entry_at t.tree) z ∙ f.at_gt) y (omega (arith, f.gt_span_lem)) (omega (arith, f.gt_span_lem, f.le_span_lem))
        go (inl (y, inr z)) = at_i le (ap (entry_at t.tree) z ∙ f.at_le) y (omega (arith, f.gt_span_lem)) (omega (arith, f.le_span_lem))
        go (inr k) = let w = forward a c k in let x : a < n = omega (arith, w.0, w.1) in rw (f.same_spans a x, f.same_spans c w.1) (ok.nested a c k q)

    own_below' : (a c : ℕ) → Child (tree_nodes t.tree) a c → seeds a ≡ false → seeds c ≡ false
    own_below' a c h q = go (f.children a c h)
      where
        go : ((a ≡ i) × ((c ≡ n) ⊎ (c ≡ suc n))) ⊎ Child (tree_nodes s.tree) a c → seeds c ≡ false
        go (inl (y, inl z)) = rw z own_new.0
        go (inl (y, inr z)) = rw z own_new.1
        go (inr k) = ok.own_below a c k q

    same-depth : (k : ℕ) → k < n → (entry_at t.tree k).depth ≡ (entry_at s.tree k).depth
    unfolding become_split
    same-depth k h = elim (ℕ_discrete k i) [ yes q ↦ rw (q, f.at) refl | no ne ↦ ap (λ (x : Entry M). x.depth) (f.old k h ne) ]

    child_depth' : (a c : ℕ) → Child (tree_nodes t.tree) a c → (entry_at t.tree c).depth ≡ suc (entry_at t.tree a).depth
    child_depth' a c h = go (f.children a c h)
      where
        go : ((a ≡ i) × ((c ≡ n) ⊎ (c ≡ suc n))) ⊎ Child (tree_nodes s.tree) a c → (entry_at t.tree c).depth ≡ suc (entry_at t.tree a).depth
        go (inl (y, inl z)) = rw (y, z, f.at_gt, same-depth i inside) deeper.0
        go (inl (y, inr z)) = rw (y, z, f.at_le, same-depth i inside) deeper.1
        go (inr k) = let w = forward a c k in let x : a < n = omega (arith, w.0, w.1) in rw (same-depth a x, same-depth c w.1) (ok.deep.child a c k)

    split-healthy : Healthy B.Small seeds given t
    split-healthy = record {
      entries = λ k h. entries' k (rw f.longer at h);
      costs = λ k h. costs' k (rw f.longer at h);
      parents = λ k pos h. parents' k (rw f.longer at h) pos;
      counted = f.same_count ∙ ok.counted;
      covered = covered';
      nested = nested';
      own_below = own_below';
      deep = record { root = same-depth 0 (omega arith) ∙ ok.deep.root; child = child_depth' };
    }

  -- ---- any number of steps
  module _ (B : Bounds M) (j : Job M) (given : List Row) (fit : JobFits B.Small j (length given)) (seeds : ℕ → Bool) where
    abbrev Inv : State M → Type 0
    Inv s = Invariant j.uses seeds given s

    over-depth : (rows : List Row) (mode : ℤ) (s : Span) (depth : ℕ) → (leaf_over j rows mode s depth).depth ≡ depth
    unfolding leaf_over
    over-depth rows mode s depth = refl

    chosen-healthy : (s : State M) → Inv s → Healthy B.Small seeds given s → (one : OneSplit j s (step j s)) → Inv (split_at j s one.number one.offer) → Healthy B.Small seeds given (split_at j s one.number one.offer)
    unfolding gt_leaf le_leaf
    chosen-healthy s inv ok one inv' =
        split-healthy B seeds given s (split_at j s i o) i o (gt_leaf j s.rows e o) (le_leaf j s.rows e o) j.uses f ok one.inside (was, inv.own i was)
        (inv'.own n (rw f.at_gt f.leaves.0), inv'.own (suc n) (rw f.at_le f.leaves.1))
        (subst OfferInRange one.waiting (ok.entries i one.inside).offer_fits)
        (leaf_over-fits B j (length given) fit gt (span_mode j.uses gt) (gt_span j s.rows e o) (suc e.depth), leaf_over-fits B j (length given) fit le (span_mode j.uses le) (le_span j s.rows e o) (suc e.depth)) (
          leaf_over-small B j (length given) fit gt (span_mode j.uses gt) (gt_span j s.rows e o) (suc e.depth) (omega (arith, few)),
          leaf_over-small B j (length given) fit le (span_mode j.uses le) (le_span j s.rows e o) (suc e.depth) (omega (arith, few)),
        )
        (λ a c h. rw (length-map s.tree (λ (x : Entry M). x.node)) at (child-forward (tree_nodes s.tree) inv.family.forward a c h))
        (over-depth gt _ _ (suc e.depth), over-depth le _ _ (suc e.depth))
      where
        i : ℕ
        i = one.number

        o : Offer M
        o = one.offer

        e : Entry M
        e = entry_at s.tree i

        n : ℕ
        n = length s.tree

        was : T (is_leaf e.node)
        was = inv.offers i one.inside o one.waiting

        gt : List Row
        gt = gt_rows j s.rows e o

        le : List Row
        le = le_rows j s.rows e o

        f : SplitOf j.uses s (split_at j s i o) i o (gt_leaf j s.rows e o) (le_leaf j s.rows e o)
        f = split_of j seeds given s inv i one.inside was o

        few : length gt + length le ≤ length given
        few = few_parted j seeds given s inv i one.inside was o ok.counted

    -- n steps keep it, and add at most 2 n nodes
    pub steps-healthy : (n : ℕ) (s : State M) → Inv s → Healthy B.Small seeds given s → Healthy B.Small seeds given (steps j n s) × (length (steps j n s).tree ≤ length s.tree + 2 * n)
    unfolding steps
    steps-healthy zero s inv ok = (ok, omega arith)
    steps-healthy (suc n) s inv ok = go (steps-healthy n s inv ok) (steps-keep j seeds given n s inv) (step_is j (steps j n s))
      where
        before : State M
        before = steps j n s

        go : Healthy B.Small seeds given before × (length before.tree ≤ length s.tree + 2 * n) → Inv before → (step j before ≡ before) ⊎ OneSplit j before (step j before)
            → Healthy B.Small seeds given (step j before) × (length (step j before).tree ≤ length s.tree + 2 * suc n)
        go (h, few) inv (inl e) = rw e (h, omega arith)
        go (h, few) inv (inr one) =
            let was = inv.offers one.number one.inside one.offer one.waiting in
            let inv' : Inv (split_at j before one.number one.offer) = subst Inv one.result (step_keeps j seeds given before inv) in
            let f = split_of j seeds given before inv one.number one.inside was one.offer in
            rw one.result (chosen-healthy before inv h one inv', omega (arith, few, f.longer))

    -- one leaf over all rows
    pub root-healthy : Healthy B.Small seeds given (root_state j given)
    unfolding root_state leaf_over
    root-healthy = search (arith, length-fresh)
