-- Of two runs whose limits are k and k + 1, the leaf that only the second splits is the one that goes before every other that waits in the first. Assumes nothing.
use mathlib.Core.Path.{◌≡◌, refl, sym, ap, ◌∙◌, subst}
use Prim.Native.Nat.{ℕ, suc, ◌-◌, ◌*◌, ◌≤◌, ◌<◌, max}
use native.Mathlib.Nat.{le_refl, lt_irrefl}
use native.Mathlib.Omega.{arith}
use native.Mathlib.Decide.{dec_lt}
use mathlib.Core.Bool.{Bool, false}
use mathlib.Core.List.{List}
use mathlib.Core.Option.{none, some}
use lib.ListN.{length}
use lib.IntN.{ℤ}
use lib.Dec.{T}
use Rattle.model.specs.Meter.{Meter}
use Rattle.model.specs.Settings.{Settings, with_limit}
use Rattle.model.specs.Rows.{Row, within}
use Rattle.model.specs.Tree.{is_leaf, Record, nodes_of, fault_of}
use Rattle.model.specs.Job.{Offer, Job, prunes}
use Rattle.model.specs.Grow.{State, tree_nodes, record_of, claim, split_at, step, steps}
use Rattle.model.specs.Learn.{Result, leaf_count, result_of, finished, root_state, learned}
use Rattle.model.specs.Deepen.{seed_state, deepened}
use Rattle.model.specs.Profile.{Profile, job_of}
use Rattle.model.specs.Lent.{Lent, row_count, rows_in, uses_modes, tree_in, lent_after}
use Rattle.model.specs.Operations.{tree_of}
use Rattle.model.specs.Promise.{span_at, record_at, IsLeafOf, Unpruned}
use Rattle.model.specs.Accepting.{SeedRooms, Passed, JobFits}
use Rattle.model.specs.Kept.{entry_at, no_seeds, Invariant, Current}
use Rattle.model.specs.Taken.{Foremost, Takes, none_waits, splits, offer_at, claim_at, ForemostAt, NextTakes, alike, one_more, TakesForemost}
use Rattle.model.proofs.Lawful.{Lawful}
use Rattle.model.proofs.Results.{ResultLaws}
use Rattle.model.proofs.Invariant.{split_keeps}
use Rattle.model.proofs.Steps.{steps-keep}
use Rattle.model.proofs.Root.{root_keeps}
use Rattle.model.proofs.Current.{root-current, steps-current}
use Rattle.model.proofs.Seeds.{seed_splits, seed_keeps, seed-current, seed-nodes}
use Rattle.model.proofs.Finished.{record_shown, span-shown, count-shown, rows-shown}
use Rattle.model.proofs.More.{plain, finished-plain, SplitSo, split-so}
use Rattle.model.proofs.Learned.{result-laws}
use Rattle.model.proofs.Growing.{learning-offers, deepening-offers}
use Rattle.model.proofs.Taken.{taken, Orderly}
use Rattle.model.proofs.Accepted.{learned_from, deepened_from, learn-accepted, deepen-accepted}
use Rattle.model.proofs.Listed.{length-rows_in}
use Rattle.model.proofs.AtExit.{Fits, rows_at, record_at_lem, span_at_lem}
use Rattle.model.proofs.OneMoreAtExit.{one_more_so}
use Rattle.model.proofs.SameJob.{same-job}
use Rattle.model.proofs.Demand3.{learned-fits, deepened-fits}

-- ---- a grown tree, written into the lists
module _ {M : Meter} (j : Job M) (unpruned : prunes j ≡ false) (seeds : ℕ → Bool) (given : List Row) (flat : M.Total) (x : Lent M) where
  abbrev answer : State M → Result M
  answer s = finished j s flat

  module _ (s : State M) (inv : Invariant j.uses seeds given s) where
    abbrev a : Result M
    a = answer s

    abbrev y : Lent M
    y = lent_after a x

    is-plain : a ≡ plain s flat
    is-plain = finished-plain j unpruned seeds given s flat inv

    leaves-now : a.leaves ≡ leaf_count (tree_nodes s.tree)
    unfolding plain result_of
    leaves-now = ap (λ (r : Result M). r.leaves) is-plain

    module _ (cur : Current j s) {most : ℕ} (f : Fits j.uses x most (answer s)) where
      count : a.count ≡ length s.tree
      unfolding plain
      count = ap (λ (r : Result M). r.count) is-plain ∙ count-shown s (length s.tree) flat (le_refl (length s.tree))

      rows-now : rows_in y ≡ s.rows
      unfolding plain
      rows-now = rows_at f ∙ ap (λ (r : Result M). r.rows) is-plain ∙ rows-shown s (length s.tree) flat (le_refl (length s.tree))

      module _ (k : ℕ) (h : k < length s.tree) where
        record-now : record_at y k ≡ record_of (entry_at s.tree k)
        unfolding plain
        record-now = record_at_lem f k (rw count h) ∙ rw is-plain (record_shown s (length s.tree) flat (le_refl (length s.tree)) k h)

        span-now : span_at y k ≡ (entry_at s.tree k).span
        unfolding plain
        span-now = span_at_lem f k (rw count h) ∙ rw is-plain (span-shown s (length s.tree) flat (le_refl (length s.tree)) k h)

        claim-now : (o : Offer M) → claim_at y k o ≡ claim s.tree k o
        claim-now o = rw span-now

        leaf-now : T (is_leaf (entry_at s.tree k).node) → IsLeafOf (tree_of a) y k
        leaf-now t = (rw count h, subst (λ (w : Record M). T (is_leaf w.node)) (sym record-now) t)

      inside : (k : ℕ) → IsLeafOf (tree_of a) y k → k < length s.tree
      inside k l = rw count at l.0

      offer-now : (k : ℕ) → IsLeafOf (tree_of a) y k → offer_at j y k ≡ (entry_at s.tree k).offer
      offer-now k l =
          let h = inside k l in
          let t = subst (λ (w : Record M). T (is_leaf w.node)) (record-now k h) l.1 in
          ap (λ (w : Record M). j.offered w.depth w.info.cost (within (span_at y k) (rows_in y))) (record-now k h)
          ∙ rw (span-now k h, rows-now) (sym (cur.offers k h t))

      foremost-now : (k : ℕ) (o : Offer M) → Foremost s.tree k o → ForemostAt j (tree_of a) y k o
      foremost-now k o w = record {
        offers = offer-now k (leaf-now k w.inside (inv.offers k w.inside o w.waiting)) ∙ w.waiting;
        first = λ m l ne p q. let h = inside m l in rw (claim-now k w.inside o, claim-now m h p) (w.first m h ne p (sym (offer-now m l) ∙ q));
      }

      -- the next split
      next-now : {more : ℕ} (t : State M) → Takes j s t → Fits j.uses x more (answer t) → (k : ℕ)
          → NextTakes j k (tree_of a) y (tree_of (answer t)) (lent_after (answer t) x)
      next-now t (none_waits w e) g k =
          alike (ap (λ (u : State M). tree_of (answer u)) e) (ap (λ (u : State M). lent_after (answer u) x) e) (λ few m l. offer-now m l ∙ w m (inside m l))
      next-now t (splits i o w e) g k = go split
        where
          was : T (is_leaf (entry_at s.tree i).node)
          was = inv.offers i w.inside o w.waiting

          kept : Invariant j.uses seeds given (split_at j s i o)
          kept = split_keeps j seeds given s inv i w.inside was o

          split : SplitSo j.uses i o a (answer t)
          split = rw (is-plain, e, finished-plain j unpruned seeds given (split_at j s i o) flat kept) (split-so j seeds given s flat inv i w.inside was o)

          go : SplitSo j.uses i o a (answer t) → NextTakes j k (tree_of a) y (tree_of (answer t)) (lent_after (answer t) x)
          go (one, n, p, v) = let (more, n', p', v') = one_more_so f g one in one_more more o (rw (n' ∙ n) (foremost-now i o w)) (sym (p' ∙ p)) (sym (v' ∙ v))

-- ---- the operations
module _ (P : Profile) (law : Lawful P) (orderly : Orderly P) (t : Settings P.meter) (logs : List P.meter.Cost) (x : Lent P.meter)
    (unpruned : Unpruned P t) where
  abbrev uses : Bool
  uses = uses_modes t x

  abbrev job : Job P.meter
  job = job_of P t logs uses

  abbrev given : List Row
  given = rows_in x

  -- the limit is no part of it
  same : (k : ℕ) → job_of P (with_limit k t) logs uses ≡ job
  same k = same-job P t logs uses k t.settling

  same-learned : (k : ℕ) → learned_from P (with_limit k t) logs x ≡ learned job k given
  same-learned k = ap (λ (j : Job P.meter). learned j k given) (same k)

  abbrev laws : ResultLaws law.bounds
  laws = result-laws law.bounds

  abbrev Good : Offer P.meter → Type 0
  Good o = orderly.Good o.gain

  -- two results of this job, written into the lists
  abbrev Next : ℕ → Result P.meter → Result P.meter → Type 0
  Next k a b = NextTakes job k (tree_of a) (lent_after a x) (tree_of b) (lent_after b x)

  module _ (k : ℕ) (p : Passed P (with_limit k t) logs x) (q : Passed P (with_limit (suc k) t) logs x) where
    fit : JobFits law.bounds.Small job (length given)
    fit = rw (length-rows_in x) (law.fits t logs uses (row_count x) p.settings.price p.settings.alphabet.1 p.lists.rows p.logs_enough p.logs_fit_lem)

    -- what is offered is ranked
    good : (depth : ℕ) (mode : ℤ) (rows : List Row) (o : Offer P.meter) → length rows ≤ length given → job.offered depth (job.info mode rows).cost rows ≡ some o
        → Good o
    good depth mode rows o h e =
        let few = rw (length-rows_in x) at h in
        orderly.good t logs (row_count x) p.settings.split_cost_lem p.settings.alphabet.1 p.lists.rows p.logs_enough p.logs_fit_lem depth mode rows o few e

    -- n and n + 1 splits
    after : State P.meter → ℕ → Result P.meter
    after s n = finished job (steps job n s) (job.flat given)

    splits-next : (seeds : ℕ → Bool) (s : State P.meter) (n : ℕ) → Invariant uses seeds given s → Current job s
        → ((i : ℕ) (o : Offer P.meter) → (entry_at (steps job n s).tree i).offer ≡ some o → Good o)
        → {most more : ℕ} → Fits uses x most (after s n) → Fits uses x more (after s (suc n)) → Next k (after s n) (after s (suc n))
    unfolding after steps
    splits-next seeds s n inv cur ranks f g =
        let u = steps job n s in
        next-now job unpruned seeds given (job.flat given) x u (steps-keep job seeds given n s inv) (steps-current job seeds given n s inv cur) f
        (step job u) (taken orderly.ranked job orderly.order u (λ i l. ranks i)) g k

    -- learning: k - 1 splits of one leaf
    learned-next : {most more : ℕ} → Fits uses x most (learned job k given) → Fits uses x more (learned job (suc k) given)
        → Next k (learned job k given) (learned job (suc k) given)
    unfolding learned after
    learned-next f g =
        let one : suc k - 1 ≡ suc (k - 1) = omega (arith, p.settings.limit.0) in
        let ranks = learning-offers Good (length given) job good given (le_refl (length given)) (k - 1) in
        rw one (splits-next no_seeds (root_state job given) (k - 1) (root_keeps job given) (root-current job given) ranks f (rw one at g))

    pub learning : Next k (learned_from P (with_limit k t) logs x) (learned_from P (with_limit (suc k) t) logs x)
    learning =
        let f = learned-fits P law laws (with_limit k t) logs x p in
        let g = learned-fits P law laws (with_limit (suc k) t) logs x q in
        rw (same-learned k, same-learned (suc k)) (learned-next (subst (Fits uses x (2 * k - 1)) (same-learned k) f) (subst (Fits uses x (2 * suc k - 1)) (same-learned (suc k)) g))

    -- deepening: as many splits as the limit is above the seed's leaves, if it is
    module _ (count : ℕ) (rooms : SeedRooms count x) (sound : fault_of (tree_in count x.nodes) ≡ none) where
      abbrev seed : List (Record P.meter)
      seed = tree_in count x.nodes

      same-deepened : (i : ℕ) → deepened_from P (with_limit i t) logs count x ≡ deepened job i seed given
      same-deepened i = ap (λ (j : Job P.meter). deepened j i seed given) (same i)

      deepened-next : {most more : ℕ} → Fits uses x most (deepened job k seed given) → Fits uses x more (deepened job (suc k) seed given)
          → Next k (deepened job k seed given) (deepened job (suc k) seed given)
      unfolding deepened after steps
      deepened-next f g = elim (dec_lt k leaves) [ yes h ↦ few h | no h ↦ enough (omega arith) f g ]
        where
          leaves : ℕ
          leaves = leaf_count (nodes_of seed)

          start : State P.meter
          start = seed_state job seed given

          seeds : ℕ → Bool
          seeds = seed_splits law.bounds job seed given fit sound

          inv : Invariant uses seeds given start
          inv = seed_keeps law.bounds job seed given fit sound

          -- the answer has the seed's leaves
          few : k < leaves → Next k (after start (k - leaves)) (after start (suc k - leaves))
          few h =
              let none : k - leaves ≡ 0 = omega arith in
              let none' : suc k - leaves ≡ 0 = omega arith in
              let same : (after start 0).leaves ≡ leaves =
              leaves-now job unpruned seeds given (job.flat given) x start inv ∙ ap leaf_count (seed-nodes law.bounds job seed given fit sound) in
              rw (none, none') (alike refl refl (λ l m i. absurd (lt_irrefl k (omega (arith, same, l)))))

          enough : leaves ≤ k → {most more : ℕ} → Fits uses x most (after start (k - leaves)) → Fits uses x more (after start (suc k - leaves))
              → Next k (after start (k - leaves)) (after start (suc k - leaves))
          enough h f g =
              let one : suc k - leaves ≡ suc (k - leaves) = omega arith in
              let ranks = deepening-offers Good (length given) job good seed given (le_refl (length given)) (k - leaves) in
              rw one (splits-next seeds start (k - leaves) inv (seed-current law.bounds job seed given fit sound) ranks f (rw one at g))

      pub deepening : Next k (deepened_from P (with_limit k t) logs count x) (deepened_from P (with_limit (suc k) t) logs count x)
      deepening =
          let f = deepened-fits P law laws (with_limit k t) logs x p count rooms sound in
          let g = deepened-fits P law laws (with_limit (suc k) t) logs x q count rooms sound in
          let n = max (2 * k - 1) count in
          let m = max (2 * suc k - 1) count in
          rw (same-deepened k, same-deepened (suc k)) (deepened-next (subst (Fits uses x n) (same-deepened k) f) (subst (Fits uses x m) (same-deepened (suc k)) g))

pub takes_foremost_of : (P : Profile) → Lawful P → Orderly P → TakesForemost P
takes_foremost_of P law orderly = record {
  learn_takes = λ t logs x y z k a b un e f.
      let (p, ea, ey) = learn-accepted P (with_limit k t) logs x y a e in
      let (q, eb, ez) = learn-accepted P (with_limit (suc k) t) logs x z b f in
      rw (ea, ey, eb, ez) (learning P law orderly t logs x un k p q);
  deepen_takes = λ t logs count x y z k a b un e f.
      let (p, s, sound, ea, ey) = deepen-accepted P (with_limit k t) logs x y count a e in
      let (q, _, _, eb, ez) = deepen-accepted P (with_limit (suc k) t) logs x z count b f in
      rw (ea, ey, eb, ez) (deepening P law orderly t logs x un k p q count s sound);
}
