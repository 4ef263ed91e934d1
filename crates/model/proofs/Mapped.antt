-- Each split but a seed's parts its span between its children: growth makes it so, and what pruning and settling change of it. Assumes nothing.
use mathlib.Core.Path.{◌≡◌, refl, sym, ap, ◌∙◌, subst}
use mathlib.Core.Logic.{◌≢◌, inl, inr}
use Prim.Native.Nat.{ℕ, zero, suc, ◌+◌, ◌-◌, ◌≤◌, ◌<◌}
use native.Mathlib.Nat.{lt_irrefl}
use native.Mathlib.Omega.{arith}
use mathlib.Core.Bool.{Bool, true, false, cond, not}
use mathlib.Core.List.{List, [], ◌∷◌, ◌++◌, map, map-map, map-append}
use mathlib.Core.Option.{none}
use lib.ListN.{length, get_or, take, drop, length-map}
use lib.Seq.{slice, length-slice}
use lib.IntN.{ℤ, pos}
use lib.Signed.{lt_z}
use lib.Dec.{T}
use Rattle.std.proofs.lemmas.List.{take-map, drop-map}
use Rattle.model.specs.Lists.{count_if}
use Rattle.model.specs.Meter.{Meter}
use Rattle.model.specs.Rows.{Row, is_above, Span, within}
use Rattle.model.specs.Mode.{fresh}
use Rattle.model.specs.Partition.{above_rows}
use Rattle.model.specs.Tree.{Node, split, leaf, is_leaf, Record, nodes_of, fault_of}
use Rattle.model.specs.Job.{Offer, Job}
use Rattle.model.specs.Grow.{Entry, State, tree_nodes, leaf_over, gt_rows, gt_span, le_span, gt_leaf, le_leaf, become_split, split_at, step, steps}
use Rattle.model.specs.Prune.{place_of, renumbered, moved, pruned_nodes, pruned_tree}
use Rattle.model.specs.Settle.{settled}
use Rattle.model.specs.Learn.{root_state}
use Rattle.model.specs.Deepen.{seed_state}
use Rattle.model.specs.Promise.{key}
use Rattle.model.specs.Accepting.{rows_below, Below, OfferFits, JobFits}
use Rattle.model.specs.Family.{Forward, ChildOf, Family}
use Rattle.model.specs.Kept.{entry_at, no_seeds, Invariant, Weighed}
use Rattle.model.specs.SplitMap.{PartsSpan, Parts}
use Rattle.model.proofs.Lawful.{Bounds}
use Rattle.model.proofs.Counting.{count_map}
use Rattle.model.proofs.Parts.{length-parts, length-others}
use Rattle.model.proofs.Extended.{new-cases}
use Rattle.model.proofs.Slices.{put_back}
use Rattle.model.proofs.Fresh.{fresh-key, length-fresh}
use Rattle.model.proofs.Preorder.{place_at, mem_get_d}
use Rattle.model.proofs.Invariant.{node_at, clear_of, SplitOf, split_of, span_kept}
use Rattle.model.proofs.Steps.{OneSplit, step_is, steps-keep}
use Rattle.model.proofs.Below.{step-weighed}
use Rattle.model.proofs.Seeds.{not_false→t, seed_splits, seed-nodes}
use Rattle.model.proofs.Folding.{Folded, folds}
use Rattle.model.proofs.Pruned as P

-- ---- the same spans, and rows of which as many are below
again : {rows rows' : List Row} {s s' gt gt' le le' : Span} {prop : ℕ} {val : ℤ} → PartsSpan rows s prop val gt le
    → s' ≡ s → gt' ≡ gt → le' ≡ le → rows_below prop val (within s rows') ≡ rows_below prop val (within s rows) → PartsSpan rows' s' prop val gt' le'
again p a b c same = rw (a, b, c) (record { gt_first = p.gt_first; gt_end = p.gt_end; le_end = p.le_end; below = p.below ∙ sym same; some = p.some })

-- of a node whose children are below n
pub reread : {at at' : ℕ → Span} (rows rows' : List Row) (n k : ℕ) (m : Node) → Forward n k m → k < n → ((c : ℕ) → c < n → at' c ≡ at c)
    → ((prop : ℕ) (val : ℤ) → rows_below prop val (within (at k) rows') ≡ rows_below prop val (within (at k) rows)) → Parts at rows k m → Parts at' rows' k m
reread rows rows' n k leaf f h same below p = tt
reread rows rows' n k (split prop val gt le) f h same below p = again p (same k h) (same gt f.2) (same le f.3) (below prop val)

-- only the rows are others
pub row-parts : (at : ℕ → Span) (rows rows' : List Row) (k : ℕ) (m : Node) → ((s : Span) (prop : ℕ) (val : ℤ) → rows_below prop val (within s rows') ≡ rows_below prop val (within s rows))
    → Parts at rows k m → Parts at rows' k m
row-parts at rows rows' k leaf same p = tt
row-parts at rows rows' k (split prop val gt le) same p = again p refl refl refl (same (at k) prop val)

leaf-parts : (at : ℕ → Span) (rows : List Row) (k : ℕ) (m : Node) → T (is_leaf m) → Parts at rows k m
leaf-parts at rows k leaf t = tt
leaf-parts at rows k (split prop val gt le) t = absurd t

-- ---- settling leaves each row's properties at its place
abbrev props_at : List Row → List (List ℤ)
props_at = map (λ (r : Row). r.props)

fresh-props : (uses : Bool) (rows : List Row) → props_at (fresh uses rows) ≡ props_at rows
fresh-props uses rows =
    sym (map-map (λ (r : Row). r.props) (key uses) (fresh uses rows)) ∙ ap props_at (fresh-key uses rows) ∙ map-map (λ (r : Row). r.props) (key uses) rows

put-props : (uses : Bool) (s : Span) (rows : List Row) → s.first ≤ s.end → props_at (take s.first rows ++ fresh uses (within s rows) ++ drop s.end rows) ≡ props_at rows
put-props uses s rows h =
    let f = take s.first rows in
    let d = drop s.end rows in
    map-append (λ (r : Row). r.props) (f ++ fresh uses (within s rows)) d
    ∙ ap (λ (l : List (List ℤ)). l ++ props_at d) (map-append (λ (r : Row). r.props) f (fresh uses (within s rows)) ∙ ap (λ (l : List (List ℤ)). props_at f ++ l) (fresh-props uses (within s rows)) ∙ sym (map-append (λ (r : Row). r.props) f (within s rows)))
    ∙ sym (map-append (λ (r : Row). r.props) (f ++ within s rows) d)
    ∙ ap props_at (put_back s.first s.end rows h)

-- a count by property is one of properties
below-props : (prop : ℕ) (val : ℤ) (s : Span) (rows : List Row) → rows_below prop val (within s rows) ≡ count_if (λ (ps : List ℤ). not (lt_z val (get_or ps prop (pos 0)))) (slice s.first s.end (props_at rows))
below-props prop val s rows =
    sym (ap (count_if (λ (ps : List ℤ). not (lt_z val (get_or ps prop (pos 0)))))
    (ap (drop s.first) (take-map (λ (r : Row). r.props) s.end rows) ∙ drop-map (λ (r : Row). r.props) s.first (take s.end rows))
    ∙ count_map (λ (ps : List ℤ). not (lt_z val (get_or ps prop (pos 0)))) (λ (r : Row). r.props) (within s rows))

pub below-same : (rows rows' : List Row) → props_at rows' ≡ props_at rows → (s : Span) (prop : ℕ) (val : ℤ) → rows_below prop val (within s rows') ≡ rows_below prop val (within s rows)
below-same rows rows' same s prop val =
    below-props prop val s rows' ∙ ap (λ (l : List (List ℤ)). count_if (λ (ps : List ℤ). not (lt_z val (get_or ps prop (pos 0)))) (slice s.first s.end l)) same ∙ sym (below-props prop val s rows)

module _ {M : Meter} where
  abbrev pub span_in : List (Entry M) → ℕ → Span
  span_in tree k = (entry_at tree k).span

  -- each node but a seed's
  pub record Mapped (seeds : ℕ → Bool) (s : State M) : Type 0 where
    pub parts : (k : ℕ) → k < length s.tree → seeds k ≡ false → Parts (span_in s.tree) s.rows k (entry_at s.tree k).node

  -- ---- the new split
  module _ (j : Job M) (rows : List Row) (e : Entry M) (o : Offer M) (ordered : e.span.first ≤ e.span.end) (inside : e.span.end ≤ length rows) (below : Below o (within e.span rows)) where
    abbrev above : Row → Bool
    above = is_above o.prop o.val

    abbrev mine : List Row
    mine = within e.span rows

    gt-count : length (gt_rows j rows e o) ≡ length (above_rows above mine)
    unfolding gt_rows
    gt-count = length-fresh j.uses (above_rows above mine)

    sides : length (gt_rows j rows e o) + o.below ≡ e.span.end - e.span.first
    sides = omega (arith, gt-count, length-parts above mine, length-others above mine, below.is, length-slice e.span.first e.span.end rows inside)

    pub new-parts : PartsSpan rows e.span o.prop o.val (gt_leaf j rows e o).span (le_leaf j rows e o).span
    unfolding gt_leaf le_leaf leaf_over gt_span le_span
    new-parts =
        let all = length-slice e.span.first e.span.end rows inside in
        record { gt_first = refl; gt_end = refl; le_end = refl; below = omega (arith, sides, below.is); some = (omega (arith, sides, all, below.not_all), omega (arith, sides, below.some_below)) }

  -- ---- growth
  module _ (j : Job M) (fit : (depth : ℕ) (cost : M.Cost) (rows : List Row) → OfferFits rows (j.offered depth cost rows)) (seeds : ℕ → Bool) (given : List Row) where
    forward : (s : State M) → Invariant j.uses seeds given s → (k : ℕ) → k < length s.tree → Forward (length s.tree) k (entry_at s.tree k).node
    forward s inv k h =
        let long = length-map s.tree (λ (e : Entry M). e.node) in
        rw (node_at s.tree k, long) at (inv.family.forward k (rw long h))

    module _ (s : State M) (inv : Invariant j.uses seeds given s) (w : Weighed s) (m : Mapped seeds s) (one : OneSplit j s (step j s)) where
      abbrev i : ℕ
      i = one.number

      abbrev o : Offer M
      o = one.offer

      abbrev e : Entry M
      e = entry_at s.tree i

      abbrev t : State M
      t = split_at j s i o

      was : T (is_leaf e.node)
      was = inv.offers i one.inside o one.waiting

      f : SplitOf j.uses s t i o (gt_leaf j s.rows e o) (le_leaf j s.rows e o)
      f = split_of j seeds given s inv i one.inside was o

      -- what a test that looks at a property finds in rows that are alike but for their order and zero tokens
      below_same : (x : Span) (prop : ℕ) (val : ℤ) → ((p : Row → Bool) → count_if p (map (key j.uses) (within x t.rows)) ≡ count_if p (map (key j.uses) (within x s.rows)))
          → rows_below prop val (within x t.rows) ≡ rows_below prop val (within x s.rows)
      below_same x prop val same =
          let p : Row → Bool = λ r. not (is_above prop val r) in
          sym (count_map p (key j.uses) (within x t.rows)) ∙ same p ∙ count_map p (key j.uses) (within x s.rows)

      old_below : (k : ℕ) → k < length s.tree → k ≢ i → (prop : ℕ) (val : ℤ) → rows_below prop val (within (span_in s.tree k) t.rows) ≡ rows_below prop val (within (span_in s.tree k) s.rows)
      unfolding split_at
      old_below k h ne prop val = below_same (span_in s.tree k) prop val
          (span_kept j seeds given s inv i one.inside was o (entry_at s.tree k) (inv.bounds k h).1 (clear_of s inv i k one.inside h (λ (z : i ≡ k). ne (sym z)) was))

      here : Parts (span_in t.tree) t.rows i (become_split e o (length s.tree)).node
      unfolding become_split
      here = again (new-parts j s.rows e o (inv.bounds i one.inside).0 (inv.bounds i one.inside).1 (w.offers i one.inside o one.waiting))
          (f.same_spans i one.inside) (ap (λ (x : Entry M). x.span) f.at_gt) (ap (λ (x : Entry M). x.span) f.at_le) (below_same e.span o.prop o.val f.same_rows)

      pub split-mapped : Mapped seeds t
      split-mapped = record { parts = λ k h. cases k (rw f.longer at h) }
        where
          cases : (k : ℕ) → k < suc (suc (length s.tree)) → seeds k ≡ false → Parts (span_in t.tree) t.rows k (entry_at t.tree k).node
          cases = new-cases {P = λ (k : ℕ). seeds k ≡ false → Parts (span_in t.tree) t.rows k (entry_at t.tree k).node} (length s.tree) i
              (λ k h ne own. subst (λ (x : Entry M). Parts (span_in t.tree) t.rows k x.node) (sym (f.old k h ne))
              (reread s.rows t.rows (length s.tree) k (entry_at s.tree k).node (forward s inv k h) h f.same_spans (old_below k h ne) (m.parts k h own)))
              (λ own. subst (λ (x : Entry M). Parts (span_in t.tree) t.rows i x.node) (sym f.at) here)
              (λ own. subst (λ (x : Entry M). Parts (span_in t.tree) t.rows (length s.tree) x.node) (sym f.at_gt) (leaf-parts (span_in t.tree) t.rows (length s.tree) _ f.leaves.0))
              (λ own. subst (λ (x : Entry M). Parts (span_in t.tree) t.rows (suc (length s.tree)) x.node) (sym f.at_le) (leaf-parts (span_in t.tree) t.rows (suc (length s.tree)) _ f.leaves.1))

    pub steps-mapped : (n : ℕ) (s : State M) → Invariant j.uses seeds given s → Weighed s → Mapped seeds s → Weighed (steps j n s) × Mapped seeds (steps j n s)
    unfolding steps
    steps-mapped zero s inv w m = (w, m)
    steps-mapped (suc n) s inv w m = next (steps-mapped n s inv w m) (steps-keep j seeds given n s inv)
      where
        before : State M
        before = steps j n s

        next : Weighed before × Mapped seeds before → Invariant j.uses seeds given before → Weighed (step j before) × Mapped seeds (step j before)
        next (w, m) inv = (step-weighed j fit seeds given before inv w, elim (step_is j before) [ inl e ↦ rw e m | inr one ↦ rw one.result (split-mapped before inv w m one) ])

  -- learning starts from one leaf
  pub root-mapped : (j : Job M) (rows : List Row) → Mapped no_seeds (root_state j rows)
  unfolding root_state leaf_over
  root-mapped j rows = record { parts = elim [ zero ↦ λ h own. tt | suc k ↦ λ h. absurd (lt_irrefl 0 (omega arith)) ] }

  -- and deepening from a seed's splits and leaves
  pub seed-mapped : (B : Bounds M) (j : Job M) (seed : List (Record M)) (rows : List Row) (fit : JobFits B.Small j (length rows)) (faultless : fault_of seed ≡ none)
      → Mapped (seed_splits B j seed rows fit faultless) (seed_state j seed rows)
  seed-mapped B j seed rows fit faultless = record {
    parts = λ k h own.
        let s = seed_state j seed rows in
        let at = sym (ap (λ (l : List Node). get_or l k leaf) (seed-nodes B j seed rows fit faultless)) ∙ node_at s.tree k in
        leaf-parts (span_in s.tree) s.rows k (entry_at s.tree k).node (subst (λ (m : Node). T (is_leaf m)) at (not_false→t (is_leaf (get_or (nodes_of seed) k leaf)) own));
  }

  -- ---- pruning
  module _ (price : M.Cost) (tree : List (Entry M)) (family : Family (tree_nodes tree)) (rooted : 0 < length tree) where
    abbrev order : List ℕ
    order = P.order price tree family rooted

    abbrev kept : List (Entry M)
    kept = pruned_tree price tree

    abbrev pn : List Node
    pn = pruned_nodes price tree

    pub pruned-parts : (rows : List Row) (q : ℕ) → q < length order → Parts (span_in tree) rows (get_or order q 0) (entry_at tree (get_or order q 0)).node
        → Parts (span_in kept) rows q (entry_at kept q).node
    unfolding moved
    pruned-parts rows q h p = rw (P.entry_kept price tree family rooted q h) (go (get_or pn i leaf) refl (folds price tree i))
      where
        i : ℕ
        i = get_or order q 0

        child : (c : ℕ) → ChildOf (get_or pn i leaf) c → span_in kept (place_of c order) ≡ span_in tree c
        child c k =
            let at = place_at c order (P.closed price tree family rooted i c (mem_get_d order q h) k) in
            P.span_kept price tree family rooted (place_of c order) at.0 ∙ ap (span_in tree) at.1

        go : (m : Node) → get_or pn i leaf ≡ m → Folded (get_or (tree_nodes tree) i leaf) m → Parts (span_in kept) rows q (renumbered order m)
        go leaf e f = tt
        go (split prop val gt le) e (inr t) = absurd t
        go (split prop val gt le) e (inl z) =
            again (subst (Parts (span_in tree) rows i) (sym (node_at tree i) ∙ sym z) p)
            (P.span_kept price tree family rooted q h) (child gt (rw e (inl refl))) (child le (rw e (inr refl))) refl

  -- ---- settling
  pub settled-props : (uses : Bool) (es : List (Entry M)) (rows : List Row) → ((k : ℕ) → k < length es → (entry_at es k).span.first ≤ (entry_at es k).span.end) → props_at (settled uses es rows) ≡ props_at rows
  unfolding settled
  settled-props uses [] rows h = refl
  settled-props uses (e ∷ es) rows h = settled-props uses es _ (λ k l. h (suc k) (omega arith)) ∙ go (is_leaf e.node)
    where
      go : (b : Bool) → props_at (cond b (take e.span.first rows ++ fresh uses (within e.span rows) ++ drop e.span.end rows) rows) ≡ props_at rows
      go true = put-props uses e.span rows (h 0 (omega arith))
      go false = refl
