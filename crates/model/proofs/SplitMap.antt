-- Each split of an accepted answer but a seed's parts its span between its children, in the lists at exit. Assumes nothing.
use mathlib.Core.Path.{◌≡◌, refl, sym, ap, ◌∙◌, subst, transport}
use Prim.Native.Nat.{ℕ, ◌-◌, ◌≤◌, ◌<◌}
use native.Mathlib.Omega.{arith}
use mathlib.Core.Bool.{Bool, true, false, cond, not}
use mathlib.Core.List.{List, map}
use mathlib.Core.Option.{none}
use lib.ListN.{length, get_or, take, length-map, get_or-map, get_or-eq_default}
use lib.Seq.{get_or-take, length-take-le}
use lib.Dec.{T}
use Rattle.model.specs.Meter.{Meter}
use Rattle.model.specs.Settings.{Settings, max_nodes}
use Rattle.model.specs.Rows.{Row}
use Rattle.model.specs.Tree.{Node, leaf, is_leaf, Record, blank_record, nodes_of, fault_of}
use Rattle.model.specs.Job.{Job, prunes}
use Rattle.model.specs.Grow.{Entry, State, record_of}
use Rattle.model.specs.Prune.{place_of, pruned_tree, pruned_bits}
use Rattle.model.specs.Settle.{settled}
use Rattle.model.specs.Learn.{Result, leaf_count, pruned, settled_state, finished, root_state, learned}
use Rattle.model.specs.Deepen.{seed_state, deepened}
use Rattle.model.specs.Profile.{Profile, job_of}
use Rattle.model.specs.Lent.{Lent, rows_in, uses_modes, tree_in, lent_after}
use Rattle.model.specs.Promise.{span_at, record_at}
use Rattle.model.specs.Accepting.{SeedRooms, Passed, JobFits}
use Rattle.model.specs.Family.{Forward, AllForward}
use Rattle.model.specs.Kept.{entry_at, no_seeds, Invariant, Healthy}
use Rattle.model.specs.SeedKept.{SeedKept}
use Rattle.model.specs.SplitMap.{Parts, SplitsPart, SeedSplit, SplitMap}
use Rattle.model.proofs.Lawful.{Bounds, Lawful}
use Rattle.model.proofs.Results.{record_of_result, span_of_result, ResultLaws}
use Rattle.model.proofs.Invariant.{node_at}
use Rattle.model.proofs.Root.{root_keeps}
use Rattle.model.proofs.Below.{root-weighed}
use Rattle.model.proofs.Sound.{sound, same_length, node_at as node_of}
use Rattle.model.proofs.Seeds.{seed_splits, seed_keeps, seed-weighed}
use Rattle.model.proofs.Pruned as P
use Rattle.model.proofs.Vacated.{settled-tree}
use Rattle.model.proofs.Finished.{nodes_of_records, record_shown, span-shown, count-shown, rows-shown, pruned_done, finished_done}
use Rattle.model.proofs.Learned.{grown, grown_keeps, grown-healthy, grown-in_range, deeper, deeper_keeps, deeper-healthy, in_range, result-laws}
use Rattle.model.proofs.Accepted.{learned_from, deepened_from, learn-accepted, deepen-accepted}
use Rattle.model.proofs.NodeEntries.{length-tree, read-tree}
use Rattle.model.proofs.AtExit.{Fits, rows_at, record_at_lem, span_at_lem}
use Rattle.model.proofs.Demand3.{job-fits, learned-fits, deepened-fits}
use Rattle.model.proofs.SeedSplits.{kept_after, place-after}
use Rattle.model.proofs.Mapped.{reread, row-parts, below-same, span_in, Mapped, steps-mapped, root-mapped, seed-mapped, pruned-parts, settled-props}

not-true : (b : Bool) → (b ≡ true → ⊥) → b ≡ false
not-true true f = absurd (f refl)
not-true false f = refl

-- ---- the finished tree
module _ {M : Meter} where
  forward-in : (es : List (Entry M)) → AllForward (nodes_of (map record_of es)) → (k : ℕ) → k < length es → Forward (length es) k (entry_at es k).node
  forward-in es f k h =
      let long = length-map es (λ (e : Entry M). e.node) in
      rw (nodes_of_records es, node_at es k, long) at (f k (rw (nodes_of_records es, long) h))

  module _ (B : Bounds M) (j : Job M) (seeds : ℕ → Bool) (given : List Row) (s : State M) (inv : Invariant j.uses seeds given s) (ok : Healthy B.Small seeds given s)
      (few : length s.tree ≤ max_nodes) (fair : B.Small 1 (M.total j.price)) (m : Mapped seeds s) where
    abbrev new_order : List ℕ
    new_order = P.order j.price s.tree inv.family inv.rooted

    abbrev cut : State M
    cut = record { rows = s.rows; tree = pruned_tree j.price s.tree; bits = pruned_bits j.price s.tree }

    abbrev done : State M
    done = settled_state j (pruned j s)

    -- the number that node q had in the grown tree
    abbrev pub number : ℕ → ℕ
    number q = cond (prunes j) (get_or new_order q 0) q

    pruned-mapped : Mapped (λ (q : ℕ). seeds (number q)) (pruned j s)
    unfolding pruned
    pruned-mapped = go (prunes j)
      where
        go : (b : Bool) → Mapped (λ (q : ℕ). seeds (cond b (get_or new_order q 0) q)) (cond b cut s)
        go true = record {
          parts = λ q h own.
              let l = rw (P.length-kept j.price s.tree inv.family inv.rooted) at h in
              pruned-parts j.price s.tree inv.family inv.rooted s.rows q l (m.parts (get_or new_order q 0) (P.old-number j.price s.tree inv.family inv.rooted q l) own);
        }
        go false = m

    done-mapped : Mapped (λ (q : ℕ). seeds (number q)) done
    unfolding settled_state
    done-mapped = go j.settling
      where
        f : State M
        f = pruned j s

        go : (b : Bool) → Mapped (λ (q : ℕ). seeds (number q)) (cond b (record { rows = settled j.uses f.tree f.rows; tree = f.tree; bits = f.bits }) f)
        go true = record {
          parts = λ q h own. row-parts (span_in f.tree) f.rows (settled j.uses f.tree f.rows) q (entry_at f.tree q).node
              (below-same f.rows (settled j.uses f.tree f.rows) (settled-props j.uses f.tree f.rows (λ k l. ((pruned_done B j seeds given s inv ok few fair).placed.bounds k l).0))) (pruned-mapped.parts q h own);
        }
        go false = pruned-mapped

    -- and is found again under it
    pub numbered : (q : ℕ) → q < length done.tree → cond (prunes j) (place_of (number q) new_order) (number q) ≡ q
    unfolding pruned
    numbered q h = go (prunes j) (rw (settled-tree j (pruned j s)) at h)
      where
        go : (b : Bool) → q < length (cond b cut s).tree → cond b (place_of (cond b (get_or new_order q 0) q) new_order) (cond b (get_or new_order q 0) q) ≡ q
        go true h = P.found-again j.price s.tree inv.family inv.rooted q (rw (P.length-kept j.price s.tree inv.family inv.rooted) at h)
        go false h = refl

    pub result-parts : (flat : M.Total) (q : ℕ) → let r = finished j s flat in q < r.count → seeds (number q) ≡ false → Parts (span_of_result r) r.rows q (record_of_result r q).node
    unfolding finished
    result-parts flat q h own =
        let d = finished_done B j seeds given s inv ok few fair in
        let n = length s.tree in
        let l = rw (count-shown done n flat d.shorter) at h in
        rw (rows-shown done n flat d.shorter, record_shown done n flat d.shorter q l)
        (reread done.rows done.rows (length done.tree) q (entry_at done.tree q).node (forward-in done.tree d.sound.rooted.family.forward q l) l
        (span-shown done n flat d.shorter) (λ prop val. refl) (done-mapped.parts q l own))

-- ---- the lists at exit
exit-parts : {M : Meter} {uses : Bool} {x : Lent M} {most : ℕ} {r : Result M} (f : Fits uses x most r) (k : ℕ) → k < r.count
    → Parts (span_of_result r) r.rows k (record_of_result r k).node → let y = lent_after r x in Parts (span_at y) (rows_in y) k (record_at y k).node
exit-parts {M} {x = x} {r = r} f k h p =
    let tree = take r.count r.records in
    let long : length tree ≡ r.count = length-take-le r.count r.records f.kept.inside in
    let node : get_or (nodes_of tree) k leaf ≡ (record_of_result r k).node = get_or-map (λ (w : Record M). w.node) tree k blank_record ∙ ap (λ (w : Record M). w.node) (get_or-take r.count r.records k blank_record h) in
    let there : k < length (nodes_of tree) = omega (arith, length-map tree (λ (w : Record M). w.node)) in
    let below = rw (node, length-map tree (λ (w : Record M). w.node), long) at ((sound tree f.kept.sound).rooted.family.forward k there) in
    let y = lent_after r x in
    subst (λ (w : Record M). Parts (span_at y) (rows_in y) k w.node) (sym (record_at_lem f k h))
    (reread r.rows (rows_in y) r.count k (record_of_result r k).node below h (span_at_lem f) (λ prop val. rw (rows_at f)) p)

module _ (P : Profile) (law : Lawful P) (t : Settings P.meter) (logs : List P.meter.Cost) (x : Lent P.meter) (p : Passed P t logs x) where
  abbrev laws : ResultLaws law.bounds
  laws = result-laws law.bounds

  abbrev j : Job P.meter
  j = job_of P t logs (uses_modes t x)

  abbrev rows : List Row
  rows = rows_in x

  pub fit : JobFits law.bounds.Small j (length rows)
  fit = job-fits P law laws t logs x p

  -- learning: no split is a seed's
  learnt-parts : (k : ℕ) → let r = learned_from P t logs x in k < r.count → Parts (span_of_result r) r.rows k (record_of_result r k).node
  unfolding learned
  learnt-parts k h =
      let B = law.bounds in
      let low = p.settings.limit.0 in
      let high = p.settings.limit.1 in
      result-parts B j no_seeds rows (grown B j t.limit rows fit low high) (grown_keeps B j t.limit rows fit low high) (grown-healthy B j t.limit rows fit low high).0
      (grown-in_range B j t.limit rows fit low high) fit.price_small
      (steps-mapped j fit.offer_fits no_seeds rows (t.limit - 1) (root_state j rows) (root_keeps j rows) (root-weighed j fit.offer_fits rows) (root-mapped j rows)).1 (j.flat rows) k h refl

  -- deepening: node k of the answer is a split of the seed, or parts its span
  module _ (count : ℕ) (rooms : SeedRooms count x) (faultless : fault_of (tree_in count x.nodes) ≡ none) where
    abbrev seed : List (Record P.meter)
    seed = tree_in count x.nodes

    abbrev pub seeds : ℕ → Bool
    seeds = seed_splits law.bounds j seed rows fit faultless

    abbrev s : State P.meter
    s = deeper law.bounds j t.limit seed rows fit faultless

    inv : Invariant j.uses seeds rows s
    inv = deeper_keeps law.bounds j t.limit seed rows fit faultless

    ok : Healthy law.bounds.Small seeds rows s
    ok = (deeper-healthy law.bounds j t.limit seed rows fit faultless).0

    few : length s.tree ≤ max_nodes
    few = in_range law.bounds j t.limit seed rows fit faultless p.settings.limit.1

    mapped : Mapped seeds s
    mapped = (steps-mapped j fit.offer_fits seeds rows (t.limit - leaf_count (nodes_of seed)) (seed_state j seed rows) (seed_keeps law.bounds j seed rows fit faultless)
        (seed-weighed law.bounds j seed rows fit faultless) (seed-mapped law.bounds j seed rows fit faultless)).1

    -- the number that node k had in the grown tree
    abbrev was : ℕ → ℕ
    was = number law.bounds j seeds rows s inv ok few fit.price_small mapped

    deepened-parts : (k : ℕ) → let r = deepened_from P t logs count x in k < r.count → seeds (was k) ≡ false → Parts (span_of_result r) r.rows k (record_of_result r k).node
    unfolding deepened
    deepened-parts k h own = result-parts law.bounds j seeds rows s inv ok few fit.price_small mapped (j.flat rows) k h own

    -- a split of the seed stands at its place
    seed-at : (k : ℕ) → k < (deepened_from P t logs count x).count → seeds (was k) ≡ true → SeedSplit P (kept_after P law t logs count x p rooms faultless) k
    unfolding deepened finished
    seed-at k h q =
        let i = was k in
        let inside : i < count = inside-seed i q in (
          i,
          inside,
          subst (λ (m : Node). T (not (is_leaf m))) (node_of seed i ∙ ap (λ (r : Record P.meter). r.node) (read-tree count x.nodes i inside)) (rw q tt),
          place-after P law t logs count x p rooms faultless i ∙ numbered law.bounds j seeds rows s inv ok few fit.price_small mapped k (rw (count-shown (settled_state j (pruned j s)) (length s.tree) (j.flat rows) (finished_done law.bounds j seeds rows s inv ok few fit.price_small).shorter) at h),
        )
      where
        inside-seed : (i : ℕ) → seeds i ≡ true → i < count
        inside-seed i q = search (arith, get_or-eq_default, same_length, length-tree)

    -- each node of the answer but the seed's splits
    pub others-part : (k : ℕ) → let r = deepened_from P t logs count x in k < r.count → (SeedSplit P (kept_after P law t logs count x p rooms faultless) k → ⊥)
        → Parts (span_of_result r) r.rows k (record_of_result r k).node
    others-part k h out = deepened-parts k h (not-true (seeds (was k)) (λ q. out (seed-at k h q)))

pub split_map_of : (P : Profile) → Lawful P → SplitMap P
split_map_of P law = record {
  learn_parts = λ t logs x y a e.
      let (p, ea, ey) = learn-accepted P t logs x y a e in
      rw (ea, ey) (λ k h out. exit-parts (learned-fits P law (result-laws law.bounds) t logs x p) k h (learnt-parts P law t logs x p k h));
  deepen_parts = λ t logs count x y a e.
      let (p, rooms, faultless, ea, ey) = deepen-accepted P t logs x y count a e in
      let tree = sym ea in
      let lists = sym ey in
      transport (λ i. (kept : SeedKept P t count x (tree i) (lists i)) × SplitsPart (SeedSplit P kept) (tree i) (lists i)) (
        kept_after P law t logs count x p rooms faultless,
        λ k h out.
            exit-parts (deepened-fits P law (result-laws law.bounds) t logs x p count rooms faultless) k h (others-part P law t logs x p count rooms faultless k h out),
      );
}
