-- Deepening a sound seed starts in the invariant, and healthy. Assumes nothing.
use mathlib.Core.Path.{◌≡◌, refl, sym, ap, ◌∙◌, subst}
use mathlib.Core.Logic.{◌≢◌, ◌⊎◌, inl, inr}
use Prim.Native.Nat.{ℕ, suc, ◌+◌, ◌≤◌, ◌<◌}
use native.Mathlib.Nat.{zero-add, lt_irrefl}
use native.Mathlib.Omega.{arith}
use native.Mathlib.Decide.{ℕ_discrete, dec_lt}
use mathlib.Core.Bool.{Bool, true, false, not, ◌&&◌, true≢false}
use mathlib.Core.List.{List, [], ◌∷◌, ◌++◌, map, append-nil}
use mathlib.Core.Option.{Option, none, some}
use lib.ListN.{length, get_or, drop, length-append, length-map, get_or-append, get_or-eq_default, get_or-map}
use lib.Seq.{take-append-le, take_all, drop_at, get_or-append_seam, ext_get_or}
use lib.IntN.{ℤ, pos}
use lib.Dec.{T, eqb, ltb, lt→ltb}
use Rattle.model.specs.Lists.{count_if, keep}
use Rattle.model.specs.Meter.{Meter}
use Rattle.model.specs.Rows.{Row, Span, no_span, within}
use Rattle.model.specs.Mode.{fresh, span_mode}
use Rattle.model.specs.Tree.{Node, split, leaf, is_leaf, Info, Record, blank_record, nodes_of, leaf_reached, fault_of}
use Rattle.model.specs.Job.{Offer, Job}
use Rattle.model.specs.Grow.{Entry, State, no_entry, tree_nodes, leaf_over}
use Rattle.model.specs.Deepen.{rows_at, seed_split, empty_leaf, with_leaf_cost, with_seed_node, seed_from, seed_state}
use Rattle.model.specs.Promise.{key}
use Rattle.model.specs.Accepting.{OfferFits, JobFits}
use Rattle.model.specs.Family.{Child, passes}
use Rattle.model.specs.Depths.{depth_in}
use Rattle.model.specs.Kept.{FieldsFit, entry_at, Invariant, Weighed, IsOffered, Current, EntryFits, Covered, Healthy}
use Rattle.model.proofs.Lawful.{Bounds}
use Rattle.model.proofs.Counting.{count_map, count-keep, count_ext, count_none, count-all, count-below, length-keep, count_at_most}
use Rattle.model.proofs.Paths.{T→true, meets-leaf, reached-leaf}
use Rattle.model.proofs.Family.{leaf_no_child, child-forward}
use Rattle.model.proofs.Fresh.{fresh-key, fresh-twice, fresh-none, length-fresh}
use Rattle.model.proofs.Invariant.{node_at, none_is_no_some}
use Rattle.model.proofs.Sound.{Sound, sound, sound-count, has_root}
use Rattle.model.proofs.Health.{leaf_over-fits, leaf_over-small}

T→not-false : (b : Bool) → T b → not b ≡ false
T→not-false true t = refl
T→not-false false t = absurd t

pub not_false→t : (b : Bool) → not b ≡ false → T b
not_false→t true e = tt
not_false→t false e = absurd (true≢false e)

-- what stands beside a seed's split
abbrev pub split_info : {M : Meter} → Info M
split_info {M} = record { cost = M.endless; pred = 0; offset = pos 0 }

abbrev pub BesideSplit : {M : Meter} → Entry M → Type 0
BesideSplit e = (e.info ≡ split_info) × (e.span ≡ no_span)

module _ {M : Meter} (B : Bounds M) (j : Job M) (seed : List (Record M)) (rows : List Row) (fit : JobFits B.Small j (length rows)) (faultless : fault_of seed ≡ none) where
  abbrev nodes : List Node
  nodes = nodes_of seed

  good : Sound seed
  good = sound seed faultless

  abbrev reached : Row → ℕ
  reached r = leaf_reached nodes r.props

  -- which nodes are the seed's splits
  abbrev pub seed_splits : ℕ → Bool
  seed_splits k = not (is_leaf (get_or nodes k leaf))

  is_leaf_lem : (ps : List ℤ) → T (is_leaf (get_or nodes (leaf_reached nodes ps) leaf))
  is_leaf_lem ps = (reached-leaf nodes good.rooted.family.forward (has_root seed faultless) ps).0

  -- ---- offers
  -- no rows offer nothing
  nothing-offered : (depth : ℕ) (cost : M.Cost) → j.offered depth cost [] ≡ none
  nothing-offered depth cost = go (j.offered depth cost []) (fit.offer_fits depth cost [])
    where
      go : (x : Option (Offer M)) → OfferFits [] x → x ≡ none
      go none f = refl
      go (some o) f = absurd (lt_irrefl 0 (omega (arith, f.1.some_below, f.1.not_all)))

  -- what a leaf offers is said of these rows
  abbrev OffersOf : Entry M → List Row → Type 0
  OffersOf x mine = T (is_leaf x.node) → IsOffered j x mine

  -- ---- the state after the first i nodes of the seed
  record Seeding (i : ℕ) (s : State M) : Type 0 where
    counted : length s.tree ≡ i
    same : (k : ℕ) → k < i → (entry_at s.tree k).node ≡ get_or nodes k leaf
    bounds : (k : ℕ) → k < i → ((entry_at s.tree k).span.first ≤ (entry_at s.tree k).span.end) × ((entry_at s.tree k).span.end ≤ length s.rows)
    leaf_rows : (k : ℕ) → k < i → T (is_leaf (get_or nodes k leaf)) → within (entry_at s.tree k).span s.rows ≡ fresh j.uses (rows_at nodes k rows)
    apart : (x k : ℕ) → x < i → k < i → x ≢ k → ((entry_at s.tree x).span.end ≤ (entry_at s.tree k).span.first) ⊎ ((entry_at s.tree k).span.end ≤ (entry_at s.tree x).span.first)
    beside : (k : ℕ) → k < i → seed_splits k ≡ true → BesideSplit (entry_at s.tree k)
    offers : (k : ℕ) → k < i → (o : Offer M) → (entry_at s.tree k).offer ≡ some o → T (is_leaf (entry_at s.tree k).node)
    current : (k : ℕ) → k < i → OffersOf (entry_at s.tree k) (within (entry_at s.tree k).span s.rows)
    fits : (k : ℕ) → k < i → EntryFits (entry_at s.tree k)
    small : (k : ℕ) → k < i → seed_splits k ≡ false → B.Small 1 (M.total (entry_at s.tree k).info.cost)
    covered : (p : ℕ) → p < length s.rows → Covered s.tree p
    total : length s.rows ≡ count_if (λ (r : Row). ltb (reached r) i) rows
    deep : (k : ℕ) → k < i → (entry_at s.tree k).depth ≡ depth_in seed k

  -- what node i adds: an entry and its rows
  record Adds (i : ℕ) (s : State M) (x : Entry M) (more : List Row) : Type 0 where
    same : x.node ≡ get_or nodes i leaf
    span : ((x.span ≡ no_span) × (length more ≡ 0)) ⊎ (T (is_leaf x.node) × (x.span.first ≡ length s.rows) × (x.span.end ≡ length s.rows + length more))
    mine : T (is_leaf (get_or nodes i leaf)) → within x.span (s.rows ++ more) ≡ fresh j.uses (rows_at nodes i rows)
    beside : seed_splits i ≡ true → BesideSplit x
    offer : (o : Offer M) → x.offer ≡ some o → T (is_leaf x.node)
    current : OffersOf x (within x.span (s.rows ++ more))
    fits : EntryFits x
    small : seed_splits i ≡ false → B.Small 1 (M.total x.info.cost)
    enough : length more ≡ count_if (λ (r : Row). eqb (reached r) i) rows
    depth : x.depth ≡ depth_in seed i

  module _ (i : ℕ) (s : State M) (sg : Seeding i s) (x : Entry M) (more : List Row) (bits : M.Total) (add : Adds i s x more) where
    abbrev tree' : List (Entry M)
    tree' = s.tree ++ (x ∷ [])

    abbrev rows' : List Row
    rows' = s.rows ++ more

    longer : length rows' ≡ length s.rows + length more
    longer = length-append s.rows more

    one_more : length tree' ≡ suc i
    one_more = omega (arith, length-append s.tree (x ∷ []), sg.counted)

    at_old : (k : ℕ) → k < i → entry_at tree' k ≡ entry_at s.tree k
    at_old k h = get_or-append s.tree (x ∷ []) no_entry k (rw sg.counted h)

    at_new : entry_at tree' i ≡ x
    at_new = ap (entry_at tree') (sym sg.counted) ∙ get_or-append_seam s.tree x [] no_entry

    -- of the old entries, and of the new one
    all : {P : ℕ → Type 0} → ((k : ℕ) → k < i → P k) → P i → (k : ℕ) → k < suc i → P k
    all {P} old new k h = elim (ℕ_discrete k i) [ yes e ↦ subst P (sym e) new | no ne ↦ old k (omega arith) ]

    new_bounds : (x.span.first ≤ x.span.end) × (x.span.end ≤ length rows')
    new_bounds = elim add.span [ inl e ↦ rw e.0 (omega arith) | inr e ↦ omega (arith, e.1, e.2, longer) ]

    new_apart : (k : ℕ) → k < i → ((entry_at s.tree k).span.end ≤ x.span.first) ⊎ (x.span.end ≤ (entry_at s.tree k).span.first)
    new_apart k h = elim add.span [ inl e ↦ inr (rw e.0 (omega arith)) | inr e ↦ inl (omega (arith, e.1, (sg.bounds k h).1)) ]

    flip : {A B : Type 0} → A ⊎ B → B ⊎ A
    flip (inl a) = inr a
    flip (inr b) = inl b

    abbrev Apart : ℕ → ℕ → Type 0
    Apart y k = y ≢ k → ((entry_at tree' y).span.end ≤ (entry_at tree' k).span.first) ⊎ ((entry_at tree' k).span.end ≤ (entry_at tree' y).span.first)

    new_covered : (p : ℕ) → p < length rows' → Covered tree' p
    new_covered p h = elim (dec_lt p (length s.rows)) [ yes q ↦ old (sg.covered p q) | no q ↦ new (omega arith) add.span ]
      where
        old : Covered s.tree p → Covered tree' p
        old c = let k : c.0 < i = omega (arith, c.1, sg.counted) in (c.0, omega (arith, one_more, k), rw (at_old c.0 k) c.2, rw (at_old c.0 k) c.3, rw (at_old c.0 k) c.4)

        new : length s.rows ≤ p → ((x.span ≡ no_span) × (length more ≡ 0)) ⊎ (T (is_leaf x.node) × (x.span.first ≡ length s.rows) × (x.span.end ≡ length s.rows + length more)) → Covered tree' p
        new q (inl e) = absurd (lt_irrefl p (omega (arith, e.1, longer)))
        new q (inr e) = (i, omega (arith, one_more), rw at_new e.0, rw at_new (omega (arith, e.1)), rw at_new (omega (arith, e.2, longer)))

    within_old : (k : ℕ) → k < i → within (entry_at s.tree k).span rows' ≡ within (entry_at s.tree k).span s.rows
    within_old k h = ap (drop (entry_at s.tree k).span.first) (take-append-le (entry_at s.tree k).span.end s.rows more (sg.bounds k h).1)

    next : Seeding (suc i) (record { rows = rows'; tree = tree'; bits = bits })
    next = record {
      counted = one_more;
      same = all {P = λ (k : ℕ). (entry_at tree' k).node ≡ get_or nodes k leaf} (λ k h. rw (at_old k h) (sg.same k h)) (rw at_new add.same);
      bounds = all {P = λ (k : ℕ). ((entry_at tree' k).span.first ≤ (entry_at tree' k).span.end) × ((entry_at tree' k).span.end ≤ length rows')}
          (λ k h. rw (at_old k h) ((sg.bounds k h).0, omega (arith, longer, (sg.bounds k h).1))) (rw at_new new_bounds);
      leaf_rows = all {P = λ (k : ℕ). T (is_leaf (get_or nodes k leaf)) → within (entry_at tree' k).span rows' ≡ fresh j.uses (rows_at nodes k rows)}
          (λ k h t. rw (at_old k h) (within_old k h ∙ sg.leaf_rows k h t)) (λ t. rw at_new (add.mine t));
      apart = λ y k hy hk. all {P = λ (y : ℕ). Apart y k}
          (λ y hy. all {P = λ (k : ℕ). Apart y k} (λ k hk ne. rw (at_old y hy, at_old k hk) (sg.apart y k hy hk ne)) (λ ne. rw (at_old y hy, at_new) (new_apart y hy)) k hk)
          (all {P = λ (k : ℕ). Apart i k} (λ k hk ne. rw (at_new, at_old k hk) (flip (new_apart k hk))) (λ ne. absurd (ne refl)) k hk) y hy;
      beside = all {P = λ (k : ℕ). seed_splits k ≡ true → BesideSplit (entry_at tree' k)} (λ k h. rw (at_old k h) (sg.beside k h)) (rw at_new add.beside);
      offers = all {P = λ (k : ℕ). (o : Offer M) → (entry_at tree' k).offer ≡ some o → T (is_leaf (entry_at tree' k).node)} (λ k h. rw (at_old k h) (sg.offers k h)) (rw at_new add.offer);
      current = all {P = λ (k : ℕ). OffersOf (entry_at tree' k) (within (entry_at tree' k).span rows')} (λ k h. rw (at_old k h, within_old k h) (sg.current k h)) (rw at_new add.current);
      fits = all {P = λ (k : ℕ). EntryFits (entry_at tree' k)} (λ k h. rw (at_old k h) (sg.fits k h)) (rw at_new add.fits);
      small = all {P = λ (k : ℕ). seed_splits k ≡ false → B.Small 1 (M.total (entry_at tree' k).info.cost)} (λ k h. rw (at_old k h) (sg.small k h)) (rw at_new add.small);
      covered = new_covered;
      total = longer ∙ ap (λ (n : ℕ). n + length more) sg.total ∙ ap (λ (n : ℕ). count_if (λ (r : Row). ltb (reached r) i) rows + n) add.enough ∙ sym (count-below reached i rows);
      deep = all {P = λ (k : ℕ). (entry_at tree' k).depth ≡ depth_in seed k} (λ k h. rw (at_old k h) (sg.deep k h)) (rw at_new add.depth);
    }

  -- ---- all nodes
  none-reach : (i : ℕ) → seed_splits i ≡ true → (r : Row) → eqb (reached r) i ≡ false
  none-reach i q r = search (arith, is_leaf_lem)

  seed-node : (i : ℕ) (s : State M) → Seeding i s → i < length seed → (m : Node) → get_or nodes i leaf ≡ m → FieldsFit m (get_or seed i blank_record).info.pred
      → Seeding (suc i) (with_seed_node j m (get_or seed i blank_record).info (depth_in seed i) (rows_at nodes i rows) s)
  unfolding rows_at leaf_over
  seed-node i s sg h (split prop val gt le) e f =
      subst (λ (l : List Row). Seeding (suc i) (record { rows = l; tree = s.tree ++ (x ∷ []); bits = s.bits })) (append-nil s.rows) (next i s sg x [] s.bits adds)
    where
      x : Entry M
      x = seed_split (split prop val gt le) (depth_in seed i)

      is-split : seed_splits i ≡ true
      is-split = rw e

      adds : Adds i s x []
      adds = record {
        same = sym e;
        span = inl (refl, refl);
        mine = rw e (λ t. absurd t);
        beside = λ q. (refl, refl);
        offer = λ o q. absurd (none_is_no_some o q);
        current = λ lf. absurd lf;
        fits = record { node_fits = f; pred_fits = tt; offer_fits = tt };
        small = λ q. absurd (true≢false (sym is-split ∙ q));
        enough = sym (count_none (λ (r : Row). eqb (reached r) i) rows (none-reach i is-split));
        depth = refl;
      }
  seed-node i s sg h leaf e f = with_rows (rows_at nodes i rows) refl
    where
      depth : ℕ
      depth = depth_in seed i

      is_no_split : seed_splits i ≡ false
      is_no_split = rw e

      info : Info M
      info = (get_or seed i blank_record).info

      counted : (mine : List Row) → rows_at nodes i rows ≡ mine → length mine ≡ count_if (λ (r : Row). eqb (reached r) i) rows
      counted mine q = ap length (sym q) ∙ length-keep (λ (r : Row). eqb (reached r) i) rows

      with_rows : (mine : List Row) → rows_at nodes i rows ≡ mine → Seeding (suc i) (with_seed_node j leaf info depth mine s)
      with_rows [] q = next i s sg (empty_leaf info depth) (fresh j.uses []) s.bits (record {
        same = sym e;
        span = inl (refl, ap length (fresh-none j.uses));
        mine = λ t. sym (ap (fresh j.uses) q ∙ fresh-none j.uses);
        beside = λ z. absurd (true≢false (sym z ∙ is_no_split));
        offer = λ o z. absurd (none_is_no_some o z);
        current = λ lf. sym (nothing-offered depth M.nought);
        fits = record { node_fits = f; pred_fits = f; offer_fits = tt };
        small = λ z. B.small_nought;
        enough = ap length (fresh-none j.uses) ∙ counted [] q;
        depth = refl;
      })
      with_rows (r ∷ rs) q = next i s sg x fr (with_leaf_cost s.bits x (r ∷ rs)) (record {
        same = sym e;
        span = inr (tt, refl, rw (length-fresh j.uses (r ∷ rs)));
        mine = λ t. added ∙ ap (fresh j.uses) (sym q);
        beside = λ z. absurd (true≢false (sym z ∙ is_no_split));
        offer = λ o z. tt;
        current = λ lf. rw added;
        fits = leaf_over-fits B j (length rows) fit fr md sp depth;
        small = λ z. leaf_over-small B j (length rows) fit fr md sp depth few;
        enough = length-fresh j.uses (r ∷ rs) ∙ counted (r ∷ rs) q;
        depth = refl;
      })
        where
          fr : List Row
          fr = fresh j.uses (r ∷ rs)

          md : ℤ
          md = span_mode j.uses (r ∷ rs)

          sp : Span
          sp = record { first = length s.rows; end = length s.rows + length (r ∷ rs) }

          x : Entry M
          x = leaf_over j fr md sp depth

          added : within sp (s.rows ++ fr) ≡ fr
          added = ap (drop (length s.rows)) (take_all (length s.rows + length (r ∷ rs)) (s.rows ++ fr) (omega (arith, length-append s.rows fr, length-fresh j.uses (r ∷ rs))))
              ∙ drop_at s.rows fr (length s.rows) refl

          few : length fr ≤ length rows
          few = omega (arith, length-fresh j.uses (r ∷ rs), counted (r ∷ rs) q, count_at_most (λ (r : Row). eqb (reached r) i) rows)

  seed-all : (i : ℕ) (rs : List (Record M)) (s : State M) → i + length rs ≡ length seed → ((m : ℕ) → m < length rs → get_or seed (i + m) blank_record ≡ get_or rs m blank_record) → Seeding i s
      → Seeding (length seed) (seed_from j nodes rows i rs s)
  unfolding seed_from
  seed-all i [] s n same sg = let e : i ≡ length seed = omega arith in subst (λ (k : ℕ). Seeding k s) e sg
  seed-all i (r ∷ rs) s n same sg =
      seed-all (suc i) rs (with_seed_node j r.node r.info r.depth (rows_at nodes i rows) s) (omega arith)
      (λ m h. let k : suc i + m ≡ i + suc m = omega arith in rw k (same (suc m) (omega arith)))
      (subst (λ (q : Record M). Seeding (suc i) (with_seed_node j r.node q.info q.depth (rows_at nodes i rows) s)) here
      (seed-node i s sg (omega arith) r.node (get_or-map (λ (x : Record M). x.node) seed i blank_record ∙ ap (λ (x : Record M). x.node) here)
      (subst (λ (x : Node). FieldsFit x (get_or seed i blank_record).info.pred) (ap (λ (x : Record M). x.node) here) (good.fits i (omega arith)))))
    where
      here : get_or seed i blank_record ≡ r
      here = let z : i + 0 ≡ i = omega arith in rw z at (same 0 (omega arith))

  nothing_yet : Seeding 0 (record { rows = []; tree = []; bits = M.no_total })
  nothing_yet = search (arith, count_none)

  abbrev pub s₀ : State M
  s₀ = seed_state j seed rows

  seeding : Seeding (length seed) s₀
  unfolding seed_state
  seeding = seed-all 0 seed _ (zero-add (length seed)) (λ m h. rw zero-add) nothing_yet

  count-seed : length nodes ≡ length seed
  count-seed = length-map seed (λ (r : Record M). r.node)

  -- the tree's nodes are the seed's
  pub seed-nodes : tree_nodes s₀.tree ≡ nodes
  seed-nodes = ext_get_or leaf (tree_nodes s₀.tree) nodes (length-map s₀.tree (λ (e : Entry M). e.node) ∙ seeding.counted ∙ sym count-seed)
      (λ k h. node_at s₀.tree k ∙ seeding.same k (omega (arith, length-map s₀.tree (λ (e : Entry M). e.node), seeding.counted)))

  pub seed-length : length s₀.tree ≡ length seed
  seed-length = seeding.counted

  leaf_too : (k : ℕ) → T (is_leaf (entry_at s₀.tree k).node) → T (is_leaf (get_or nodes k leaf))
  leaf_too k t = rw (← seed-nodes, node_at s₀.tree k) t

  inside : {k : ℕ} → k < length s₀.tree → k < length seed
  inside h = rw seeding.counted at h

  pub split-beside : (k : ℕ) → seed_splits k ≡ true → BesideSplit (entry_at s₀.tree k)
  split-beside k q = elim (dec_lt k (length seed)) [ yes h ↦ seeding.beside k h q | no h ↦ absurd (beyond (omega arith)) ]
    where
      beyond : length seed ≤ k → ⊥
      beyond h = true≢false (sym q ∙ ap (λ (m : Node). not (is_leaf m)) (get_or-eq_default nodes leaf (rw count-seed h)))

  passes-is : (k : ℕ) → T (is_leaf (get_or nodes k leaf)) → (r : Row) → passes (tree_nodes s₀.tree) k r ≡ eqb (reached r) k
  unfolding leaf_reached
  passes-is k t r = rw seed-nodes (meets-leaf nodes r.props k t (length nodes) 0)

  pub seed_keeps : Invariant j.uses seed_splits rows s₀
  unfolding rows_at
  seed_keeps = record {
    family = rw seed-nodes good.rooted.family;
    rooted = rw seeding.counted (sound-count seed faultless).0;
    bounds = λ k h. seeding.bounds k (inside h);
    endless = λ k q. ap (λ (i : Info M). i.cost) (split-beside k q).0;
    own = λ k t. T→not-false (is_leaf (get_or nodes k leaf)) (leaf_too k t);
    laid = λ i k hi hk ne. elim (seeding.apart i k (inside hi) (inside hk) ne) [ inl c ↦ inl c | inr c ↦ inr (inl c) ];
    holds = λ k h o p. let t = not_false→t (is_leaf (get_or nodes k leaf)) o in
        ap (λ (l : List Row). count_if p (map (key j.uses) l)) (seeding.leaf_rows k (inside h) t)
        ∙ ap (count_if p) (fresh-key j.uses (rows_at nodes k rows)) ∙ count_map p (key j.uses) (rows_at nodes k rows)
        ∙ count-keep (λ (r : Row). p (key j.uses r)) (λ (r : Row). eqb (reached r) k) rows
        ∙ count_ext rows (λ r. ap (λ (b : Bool). b && p (key j.uses r)) (sym (passes-is k t r)))
        ∙ sym (count_map p (key j.uses) (keep (passes (tree_nodes s₀.tree) k) rows) ∙ count-keep (λ (r : Row). p (key j.uses r)) (passes (tree_nodes s₀.tree) k) rows);
    fresh_tokens = λ k h t. let q = seeding.leaf_rows k (inside h) (leaf_too k t) in ap (fresh j.uses) q ∙ fresh-twice j.uses (rows_at nodes k rows) ∙ sym q;
    offers = λ k h. seeding.offers k (inside h);
  }

  pub seed-current : Current j s₀
  seed-current = record { offers = λ k h. seeding.current k (inside h) }

  pub seed-weighed : Weighed s₀
  seed-weighed = record {
    offers = λ k h o q.
        let e = entry_at s₀.tree k in
        let mine = within e.span s₀.rows in
        (subst (OfferFits mine) (sym (seeding.current k (inside h) (seeding.offers k (inside h) o q)) ∙ q) (fit.offer_fits e.depth e.info.cost mine)).1;
  }

  pub seed-healthy : Healthy B.Small seed_splits rows s₀
  seed-healthy = record {
    entries = λ k h. seeding.fits k (inside h);
    costs = λ k h. seeding.small k (inside h);
    parents = λ k later h. rw seed-nodes (good.rooted.parents k later (rw count-seed (inside h)));
    counted = seeding.total ∙ count-all (λ (r : Row). ltb (reached r) (length seed)) rows (λ r. T→true (ltb (reached r) (length seed)) (lt→ltb (reached r) (length seed) (rw count-seed at (low r))));
    covered = seeding.covered;
    nested = λ a c h q. absurd (no_child a c h q);
    own_below = λ a c h q. absurd (no_child a c h q);
    deep = record {
      root = seeding.deep 0 (sound-count seed faultless).0 ∙ good.deep.root;
      child = λ a c h.
          let k : Child nodes a c = rw seed-nodes at h in
          let w = child-forward nodes good.rooted.family.forward a c k in
          seeding.deep c (omega (arith, w.1, count-seed)) ∙ good.deep.child a c k ∙ ap suc (sym (seeding.deep a (omega (arith, w.0, w.1, count-seed))));
    };
  }
    where
      low : (r : Row) → reached r < length nodes
      low r = (reached-leaf nodes good.rooted.family.forward (has_root seed faultless) r.props).1

      no_child : (a c : ℕ) → Child (tree_nodes s₀.tree) a c → seed_splits a ≡ false → ⊥
      no_child a c h q = leaf_no_child (get_or nodes a leaf) c (not_false→t (is_leaf (get_or nodes a leaf)) q) (rw seed-nodes at h)
