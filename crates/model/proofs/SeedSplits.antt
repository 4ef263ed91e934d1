-- The splits of a deepened seed stay through growth, pruning and settling: the seed stands whole at the top of the answer. Assumes nothing.
use mathlib.Core.Path.{◌≡◌, refl, sym, ap, ◌∙◌}
use mathlib.Core.Logic.{◌≢◌, inl, inr}
use Prim.Native.Nat.{ℕ, zero, suc, ◌-◌, ◌≤◌, ◌<◌}
use native.Mathlib.Omega.{arith}
use mathlib.Core.Bool.{Bool, true, false, cond, true≢false}
use mathlib.Core.List.{List, Memᴰ}
use mathlib.Core.Option.{none}
use lib.ListN.{length, get_or, length-map, get_or-eq_default}
use lib.IntN.{ℤ}
use lib.Dec.{T}
use Rattle.model.specs.Meter.{Meter}
use Rattle.model.specs.Settings.{Settings, max_nodes, max_leaves}
use Rattle.model.specs.Rows.{Row, Span, no_span}
use Rattle.model.specs.Tree.{Node, split, leaf, is_leaf, Record, nodes_of, fault_of}
use Rattle.model.specs.Job.{Job, prunes}
use Rattle.model.specs.Grow.{Entry, State, tree_nodes, record_of, step, steps}
use Rattle.model.specs.Prune.{place_of, renumbered, moved, pruned_nodes, pruned_tree, pruned_bits}
use Rattle.model.specs.Learn.{leaf_count, pruned, settled_state, finished}
use Rattle.model.specs.Deepen.{seed_state, deepened}
use Rattle.model.specs.Profile.{Profile, job_of}
use Rattle.model.specs.Lent.{Lent, rows_in, uses_modes, tree_in, lent_after}
use Rattle.model.specs.Operations.{tree_of}
use Rattle.model.specs.SeedKept.{SeedKept, SeedsKept}
use Rattle.model.specs.Accepting.{SeedRooms, Passed, JobFits}
use Rattle.model.specs.Family.{Child}
use Rattle.model.specs.Kept.{entry_at, Invariant, Healthy}
use Rattle.model.proofs.Lawful.{Bounds, Lawful}
use Rattle.model.proofs.Results.{record_of_result, span_of_result}
use Rattle.model.proofs.Family.{child-forward}
use Rattle.model.proofs.Preorder.{place_at}
use Rattle.model.proofs.Invariant.{node_at, split_of}
use Rattle.model.proofs.Steps.{step_is, steps-keep}
use Rattle.model.proofs.Sound.{from-root, sound, same_length, node_at as node_of}
use Rattle.model.proofs.Seeds.{split_info, seed_splits, seed-nodes, seed_keeps, split-beside}
use Rattle.model.proofs.Folding.{folds, seeds-unfolded}
use Rattle.model.proofs.Pruned as P
use Rattle.model.proofs.Finished.{record_shown, span-shown, count-shown, finished_done}
use Rattle.model.proofs.Vacated.{settled-tree}
use Rattle.model.proofs.Learned.{deeper, deeper_keeps, deeper-healthy, in_range, result-laws}
use Rattle.model.proofs.Accepted.{deepened_from, deepen-accepted}
use Rattle.model.proofs.NodeEntries.{length-tree, read-tree}
use Rattle.model.proofs.AtExit.{record_at_lem, span_at_lem}
use Rattle.model.proofs.Demand3.{job-fits, deepened-fits}

-- ---- growth leaves a seed's splits as they are
module _ {M : Meter} (j : Job M) (seeds : ℕ → Bool) (given : List Row) where
  no_leaf : (s : State M) → Invariant j.uses seeds given s → (k i : ℕ) → seeds k ≡ true → T (is_leaf (entry_at s.tree i).node) → k ≢ i
  no_leaf s inv k i q t e = true≢false (sym q ∙ ap seeds e ∙ inv.own i t)

  in_tree : (s : State M) → Invariant j.uses seeds given s → (k : ℕ) → seeds k ≡ true → k < length s.tree
  in_tree s inv k q = search (arith, get_or-eq_default)

  step_same : (s : State M) → Invariant j.uses seeds given s → (k : ℕ) → seeds k ≡ true → entry_at (step j s).tree k ≡ entry_at s.tree k
  step_same s inv k q = elim (step_is j s) [
    | inl e ↦ rw e
    | inr one ↦ (let i = one.number in let was = inv.offers i one.inside one.offer one.waiting in
        rw one.result ((split_of j seeds given s inv i one.inside was one.offer).old k (in_tree s inv k q) (no_leaf s inv k i q was)))
  ]

  steps-same : (n : ℕ) (s : State M) → Invariant j.uses seeds given s → (k : ℕ) → seeds k ≡ true → entry_at (steps j n s).tree k ≡ entry_at s.tree k
  unfolding steps
  steps-same zero s inv k q = refl
  steps-same (suc n) s inv k q = step_same (steps j n s) (steps-keep j seeds given n s inv) k q ∙ steps-same n s inv k q

-- ---- where a seed stands
module _ {M : Meter} (nodes : List Node) (size : ℕ) where
  -- in a tree of `size` nodes that reads `at` and `span`: the root first, no two nodes at one place, each split as it was, to the same children
  record Stands (at : ℕ → Record M) (span : ℕ → Span) (place : ℕ → ℕ) : Type 0 where
    root : place 0 ≡ 0
    inside : (k : ℕ) → k < length nodes → place k < size
    apart : (i k : ℕ) → i < length nodes → k < length nodes → place i ≡ place k → i ≡ k
    splits : (k prop : ℕ) (val : ℤ) (gt le : ℕ) → k < length nodes → get_or nodes k leaf ≡ split prop val gt le
        → ((at (place k)).node ≡ split prop val (place gt) (place le)) × ((at (place k)).info ≡ split_info) × (span (place k) ≡ no_span)

  -- in one that reads the same
  reread : {at at' : ℕ → Record M} {span span' : ℕ → Span} {place : ℕ → ℕ} → Stands at span place
      → ((m : ℕ) → m < size → at' m ≡ at m) → ((m : ℕ) → m < size → span' m ≡ span m) → Stands at' span' place
  reread {place = place} st same same_span = record {
    root = st.root;
    inside = st.inside;
    apart = st.apart;
    splits = λ k prop val gt le h e. let low = st.inside k h in rw (same (place k) low, same_span (place k) low) (st.splits k prop val gt le h e);
  }

-- in a tree's entries
abbrev TreeStands : {M : Meter} → List Node → List (Entry M) → (ℕ → ℕ) → Type 0
TreeStands nodes tree place = Stands nodes (length tree) (λ (m : ℕ). record_of (entry_at tree m)) (λ (m : ℕ). (entry_at tree m).span) place

module _ {M : Meter} (B : Bounds M) (j : Job M) (limit : ℕ) (seed : List (Record M)) (rows : List Row)
    (fit : JobFits B.Small j (length rows)) (faultless : fault_of seed ≡ none) (high : limit ≤ max_leaves) where
  abbrev nodes : List Node
  nodes = nodes_of seed

  abbrev seeds : ℕ → Bool
  seeds = seed_splits B j seed rows fit faultless

  abbrev s₀ : State M
  s₀ = seed_state j seed rows

  -- ---- the grown tree
  abbrev s : State M
  s = deeper B j limit seed rows fit faultless

  abbrev tree : List (Entry M)
  tree = s.tree

  pub inv : Invariant j.uses seeds rows s
  inv = deeper_keeps B j limit seed rows fit faultless

  ok : Healthy B.Small seeds rows s
  ok = (deeper-healthy B j limit seed rows fit faultless).0

  few : length tree ≤ max_nodes
  few = in_range B j limit seed rows fit faultless high

  same-entry : (k : ℕ) → seeds k ≡ true → entry_at tree k ≡ entry_at s₀.tree k
  same-entry = steps-same j seeds rows (limit - leaf_count nodes) s₀ (seed_keeps B j seed rows fit faultless)

  same-node : (k : ℕ) → seeds k ≡ true → get_or (tree_nodes tree) k leaf ≡ get_or nodes k leaf
  same-node k q =
      node_at tree k ∙ ap (λ (e : Entry M). e.node) (same-entry k q)
      ∙ sym (node_at s₀.tree k) ∙ ap (λ (l : List Node). get_or l k leaf) (seed-nodes B j seed rows fit faultless)

  child-seeds : (a c : ℕ) → Child nodes a c → seeds a ≡ true
  child-seeds a c h = search arith

  same-child : (a c : ℕ) → Child nodes a c → Child (tree_nodes tree) a c
  same-child a c h = rw (same-node a (child-seeds a c h)) h

  -- every node of the seed is the root or the child of a split, and the splits have their children
  grown-stands : TreeStands nodes tree (λ (k : ℕ). k)
  grown-stands = record {
    root = refl;
    inside = from-root nodes (sound seed faultless).rooted (λ (k : ℕ). k < length tree) inv.rooted
        (λ a c h m. rw (length-map tree (λ (e : Entry M). e.node)) at (child-forward (tree_nodes tree) inv.family.forward a c (same-child a c h)).1);
    apart = λ i k hi hk e. e;
    splits = λ k prop val gt le h e.
        let q : seeds k ≡ true = rw e in
        let b = split-beside B j seed rows fit faultless k q in
        (sym (node_at tree k) ∙ same-node k q ∙ e, rw (same-entry k q) b.0, rw (same-entry k q) b.1);
  }

  -- ---- the pruned tree
  abbrev pn : List Node
  pn = pruned_nodes j.price tree

  abbrev order : List ℕ
  order = P.order j.price tree inv.family inv.rooted

  unfolded : (k : ℕ) → seeds k ≡ true → get_or pn k leaf ≡ get_or nodes k leaf
  unfolded k q = elim (folds j.price tree k) [
    | inl e ↦ e ∙ same-node k q
    | inr t ↦ absurd (true≢false (sym q ∙ seeds-unfolded B j.price fit.price_small j.uses seeds rows s inv ok few k (in_tree j seeds rows s inv k q) t))
  ]

  in_order : (k : ℕ) → k < length nodes → Memᴰ k order
  in_order = from-root nodes (sound seed faultless).rooted (λ (k : ℕ). Memᴰ k order) (P.root-there j.price tree inv.family inv.rooted)
      (λ a c h m. P.closed j.price tree inv.family inv.rooted a c m (rw (unfolded a (child-seeds a c h)) h))

  pruned-stands : TreeStands nodes (pruned_tree j.price tree) (λ (k : ℕ). place_of k order)
  unfolding moved
  pruned-stands = record {
    root = P.root-first j.price tree inv.family inv.rooted;
    inside = λ k h. rw (P.length-kept j.price tree inv.family inv.rooted) (place_at k order (in_order k h)).0;
    apart = λ i k hi hk e. P.same_place j.price tree inv.family inv.rooted i k (in_order i hi) (in_order k hk) e;
    splits = λ k prop val gt le h e.
        let p = place_at k order (in_order k h) in
        let here : entry_at (pruned_tree j.price tree) (place_of k order) ≡ moved tree pn order k =
        P.entry_kept j.price tree inv.family inv.rooted (place_of k order) p.0 ∙ ap (moved tree pn order) p.1 in
        let g = grown-stands.splits k prop val gt le h e in
        rw here (ap (renumbered order) (unfolded k (rw e) ∙ e), g.1, g.2);
  }

  -- ---- the result
  abbrev done : State M
  done = settled_state j (pruned j s)

  abbrev pub place : ℕ → ℕ
  place k = cond (prunes j) (place_of k order) k

  done-stands : TreeStands nodes done.tree place
  unfolding pruned
  done-stands = rw (settled-tree j (pruned j s)) (go (prunes j))
    where
      cut : State M
      cut = record { rows = s.rows; tree = pruned_tree j.price tree; bits = pruned_bits j.price tree }

      go : (b : Bool) → TreeStands nodes (cond b cut s).tree (λ (k : ℕ). cond b (place_of k order) k)
      go true = pruned-stands
      go false = grown-stands

  result-stands : let r = deepened j limit seed rows in Stands nodes r.count (record_of_result r) (span_of_result r) place
  unfolding deepened finished
  result-stands =
      let n = length tree in
      let flat = j.flat rows in
      let short = (finished_done B j seeds rows s inv ok few fit.price_small).shorter in
      rw (count-shown done n flat short) (reread nodes (length done.tree) done-stands (record_shown done n flat short) (span-shown done n flat short))

-- ---- the operation
-- in the lists after acceptance
pub kept_after : (P : Profile) (law : Lawful P) (t : Settings P.meter) (logs : List P.meter.Cost) (count : ℕ) (x : Lent P.meter) → Passed P t logs x → SeedRooms count x → fault_of (tree_in count x.nodes) ≡ none
    → let r = deepened_from P t logs count x in SeedKept P t count x (tree_of r) (lent_after r x)
kept_after P law t logs count x p rooms faultless =
    let laws = result-laws law.bounds in
    let seed = tree_in count x.nodes in
    let j = job_of P t logs (uses_modes t x) in
    let fit = job-fits P law laws t logs x p in
    let high = p.settings.limit.1 in
    let f = deepened-fits P law laws t logs x p count rooms faultless in
    let r = deepened_from P t logs count x in
    let st = reread (nodes_of seed) r.count (result-stands law.bounds j t.limit seed (rows_in x) fit faultless high) (record_at_lem f) (span_at_lem f) in
    let n : length (nodes_of seed) ≡ count = same_length seed ∙ length-tree count x.nodes rooms.nodes in
    record {
      place = place law.bounds j t.limit seed (rows_in x) fit faultless high;
      root = st.root;
      inside = λ k h. st.inside k (rw n h);
      apart = λ i k hi hk. st.apart i k (rw n hi) (rw n hk);
      splits = λ k prop val gt le h q. st.splits k prop val gt le (rw n h) (node_of seed k ∙ ap (λ r. r.node) (read-tree count x.nodes k h) ∙ q);
      unpruned = λ un k. rw un;
    }

pub place-after : (P : Profile) (law : Lawful P) (t : Settings P.meter) (logs : List P.meter.Cost) (count : ℕ) (x : Lent P.meter) (p : Passed P t logs x) (rooms : SeedRooms count x)
    (faultless : fault_of (tree_in count x.nodes) ≡ none) (k : ℕ) → (kept_after P law t logs count x p rooms faultless).place k
    ≡ place law.bounds (job_of P t logs (uses_modes t x)) t.limit (tree_in count x.nodes) (rows_in x) (job-fits P law (result-laws law.bounds) t logs x p) faultless p.settings.limit.1 k
unfolding kept_after
place-after P law t logs count x p rooms faultless k = refl

pub seeds_kept_of : (P : Profile) → Lawful P → SeedsKept P
seeds_kept_of P law t logs count x y a e =
    let (p, rooms, faultless, ea, ey) = deepen-accepted P t logs x y count a e in
    rw (ea, ey) (kept_after P law t logs count x p rooms faultless)
