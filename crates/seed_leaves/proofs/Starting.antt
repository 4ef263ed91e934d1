-- A planted seed is what growth starts from. Assumes nothing.
use mathlib.Core.Path.{◌≡◌, refl, sym, ap, ◌∙◌, subst}
use mathlib.Core.Bool.{Bool, true, false, cond}
use mathlib.Core.List.{List, [], ◌∷◌, ◌++◌, append-nil, map}
use mathlib.Core.Option.{some}
use Prim.Native.Nat.{ℕ, zero, suc, ◌+◌, ◌-◌, ◌*◌, ◌/◌, ◌%◌, ◌≤◌, ◌<◌, max}
use native.Mathlib.Omega.{arith}
use borrow.Author.Tests.{ltb-true, ltb-false, lt-ltb}
use lib.ListN.{length, get_or, drop, length-map}
use lib.Seq.{drop-drop, drop-length}
use lib.IntN.{ℤ}
use lib.Dec.{eqb, ltb}
use lib.Ieee.{is_nan}
use Rattle.model.specs.Settings as settings
use Rattle.model.specs.Settings.{max_nodes, max_depth}
use Rattle.model.specs.Meter.{Meter}
use Rattle.model.specs.Single.{singles}
use Rattle.model.specs.Rows.{Row, tok_of, Span}
use Rattle.model.specs.Mode.{span_mode, fresh}
use Rattle.model.specs.Evaluate.{info_of}
use Rattle.model.specs.Profile.{Profile, single, job_of}
use Rattle.model.specs.Tree.{Node, split, leaf, Info, Record, nodes_of, fault_of}
use Rattle.model.specs.Job as model
use Rattle.model.specs.Grow.{Entry, State, no_entry, leaf_over}
use Rattle.model.specs.Learn.{leaf_count}
use Rattle.model.specs.Deepen.{rows_at, seed_split, empty_leaf, seed_leaf, with_seed_node, seed_from, seed_state}
use Rattle.model.proofs.Each.{each_get_d, each_append}
use Rattle.model.proofs.Growing.{seed-sized}
use Rattle.model.proofs.Invariant.{none_is_no_some}
use Rattle.model.proofs.Seeds.{seed_keeps, seed-weighed, seed-healthy}
use Rattle.model.proofs.SingleLawful.{single-lawful}
use Rattle.model.proofs.Sound as sounds
use Rattle.model.proofs.Tally.{tree-count}
use Rattle.refuse.specs.Given.{settings_of}
use Rattle.refuse.specs.declared.Job.{Job}
use Rattle.layout.proofs.Queue.{same-itself}
use Rattle.layout.specs.declared.Tree.{Tree}
use Rattle.layout.specs.declared.MaNode.{MaNode}
use Rattle.layout.specs.declared.Span as layout
use Rattle.layout.specs.Records.{stored_of}
use Rattle.layout.specs.Tree.{NodeLists, HasRoom, holding, entry_span}
use Rattle.layout.specs.Waiting.{QueueLists, Queued, queue_of}
use Rattle.queue.specs.declared.Queue.{Queue}
use Rattle.queue.specs.Lent.{queue_in}
use Rattle.layout.proofs.Held.{room-fewer}
use Rattle.order.specs.Order.{rows_with, ordered_by, first_of}
use Rattle.order.specs.Leaves.{leaf_numbers}
use Rattle.order.proofs.OrderLaws.{length-ordered}
use Rattle.model.specs.Promise.{no_row}
use Rattle.model.specs.Accepting.{LogsWithin}
use Rattle.model.specs.Lent.{tree_in}
use Rattle.model.specs.Kept.{Invariant, Sized}
use Rattle.model.specs.Lists.{Each}
use Rattle.rows.specs.Cells.{span}
use Rattle.rows.specs.Flat.{Flat, held_in, row_count, SameSize}
use Rattle.rows.proofs.Cells.{length-held, tok_held}
use Rattle.rows.proofs.Shapes.{size-then, count_still}
use Rattle.lent.proofs.Numbers.{nought-number, evaluated_number, offered-shallow}
use Rattle.lent.specs.Fitting.{uses_of, Fitting}
use Rattle.lent.specs.Lists.{work, lists}
use Rattle.lent.specs.Grows.{job_in, Number, Grows}
use Rattle.seed_rows.specs.Ordered.{seed_in, numbers_in, Orderable, SpansOf, OrderedBy}
use Rattle.seed_leaves.specs.Sown.{seeded_to, Plants, Sowable, PlantedTo}
use Rattle.seed_leaves.specs.Seeded.{splits_of, Seedable, Seeded}
use Rattle.leaf.proofs.Making.{uses_still, fitting_still}
use Rattle.seed_leaves.proofs.SeedLists.{seed-length, nodes-length, seed-few}
use Rattle.seed_leaves.proofs.Walking.{room-queue}
use Rattle.seed_leaves.proofs.Seeding.{leaves-few, seeded-all, seeded-length}

-- ---- the tokens of ordered rows are those of the rows
module _ {A : Type 0} (P : A → Type 0) where
  each_of : (d : A) (l : List A) → ((i : ℕ) → i < length l → P (get_or l i d)) → Each P l
  each_of d [] h = tt
  each_of d (x ∷ l) h = (h 0 (omega arith), each_of d l (λ i k. h (suc i) (omega arith)))

  each_with : (ks : List ℕ) (c : ℕ) (l : List A) → Each P l → Each P (rows_with ks c l)
  unfolding rows_with
  each_with [] c l e = tt
  each_with (k ∷ ks) c [] e = tt
  each_with (k ∷ ks) c (x ∷ l) e = go (eqb k c) (each_with ks c l e.1)
    where
      go : (b : Bool) → Each P (rows_with ks c l) → Each P (cond b (x ∷ rows_with ks c l) (rows_with ks c l))
      go true r = (e.0, r)
      go false r = r

  each-ordered : (ks : List ℕ) (count : ℕ) (l : List A) → Each P l → Each P (ordered_by ks count l)
  unfolding ordered_by
  each-ordered ks zero l e = tt
  each-ordered ks (suc c) l e = each_append P (ordered_by ks c l) (rows_with ks c l) (each-ordered ks c l e) (each_with ks c l e)

abbrev Low : ℕ → Row → Type 0
Low a r = (p : ℕ) → p < 14 → tok_of r p < a

ordered-fitting : {job : Job} {counts : List ℕ} {x y : Flat} (ks : List ℕ) (count : ℕ) → Fitting job counts x → SameSize x y
    → held_in y ≡ ordered_by ks count (held_in x) → Fitting job counts y
ordered-fitting {job} {counts} {x} {y} ks count f size e = fitting_still f size below
  where
    all : Each (Low job.settings.alphabet) (held_in x)
    all = each_of (Low job.settings.alphabet) no_row (held_in x) (λ i h p k.
        let inside : i < row_count x = omega (arith, length-held x.props x.toks x.res) in
        let room : i * 14 + p < length x.toks = omega (arith, f.shaped.toks) in
        rw (tok_held x.props x.toks x.res i p inside k) (f.below (i * 14 + p) room))

    none-low : Low job.settings.alphabet no_row
    none-low p k = omega (arith, f.settings.alphabet.0)

    below : (k : ℕ) → k < length y.toks → get_or y.toks k 0 < job.settings.alphabet
    below k h =
        let i : ℕ = k / 14 in
        let p : ℕ = k % 14 in
        let small : p < 14 = omega arith in
        let whole : i * 14 + p ≡ k = omega arith in
        let many : row_count y ≡ row_count x = count_still size in
        let inside : i < row_count y = omega (arith, f.shaped.toks, size.toks) in
        let low = each_get_d (Low job.settings.alphabet) (held_in y) i no_row none-low (rw e (each-ordered (Low job.settings.alphabet) ks count (held_in x) all)) in
        subst (λ (m : ℕ). get_or y.toks m 0 < job.settings.alphabet) whole (rw (tok_held y.props y.toks y.res i p inside small) at (low p small))

-- ---- offers only where a leaf may be split
abbrev Shallow : {M : Meter} → Entry M → Type 0
Shallow {M} e = (o : model.Offer M) → e.offer ≡ some o → e.depth < max_depth

module _ (P : Profile) (t : settings.Settings P.meter) (logs : List P.meter.Cost) (uses : Bool) where
  abbrev j : model.Job P.meter
  j = job_of P t logs uses

  shallow-leaf : (rows : List Row) (mode : ℤ) (sp : Span) (depth : ℕ) → Shallow (leaf_over j rows mode sp depth)
  unfolding leaf_over
  shallow-leaf rows mode sp depth o e = offered-shallow t logs depth (info_of t logs mode rows).cost rows o e

  shallow-node : (m : Node) (info : Info P.meter) (depth : ℕ) (mine : List Row) (st : State P.meter) → Each Shallow st.tree
      → Each Shallow (with_seed_node j m info depth mine st).tree
  shallow-node (split prop val gt le) info depth mine st h = each_append Shallow st.tree (seed_split (split prop val gt le) depth ∷ []) h
      ((λ o e. absurd (none_is_no_some o e)), tt)
  shallow-node leaf info depth [] st h = each_append Shallow st.tree (empty_leaf info depth ∷ []) h ((λ o e. absurd (none_is_no_some o e)), tt)
  shallow-node leaf info depth (r ∷ rs) st h =
      each_append Shallow st.tree (seed_leaf j info depth (length st.rows) (r ∷ rs) ∷ []) h
      (shallow-leaf (fresh uses (r ∷ rs)) (span_mode uses (r ∷ rs)) (span (length st.rows) (length st.rows + length (r ∷ rs))) depth, tt)

  shallow-from : (nodes : List Node) (rows : List Row) (i : ℕ) (rs : List (Record P.meter)) (st : State P.meter) → Each Shallow st.tree
      → Each Shallow (seed_from j nodes rows i rs st).tree
  unfolding seed_from
  shallow-from nodes rows i [] st h = h
  shallow-from nodes rows i (r ∷ rs) st h =
      let mine : List Row = rows_at nodes i rows in
      shallow-from nodes rows (suc i) rs (with_seed_node j r.node r.info r.depth mine st) (shallow-node r.node r.info r.depth mine st h)

  pub seed-shallow : (seed : List (Record P.meter)) (rows : List Row) (k : ℕ) (o : model.Offer P.meter) → (get_or (seed_state j seed rows).tree k no_entry).offer
      ≡ some o → (get_or (seed_state j seed rows).tree k no_entry).depth < max_depth
  unfolding seed_state
  seed-shallow seed rows k =
      each_get_d Shallow (seed_state j seed rows).tree k no_entry (λ o e. absurd (none_is_no_some o e))
      (shallow-from (nodes_of seed) rows 0 seed (record { rows = []; tree = []; bits = P.meter.no_total }) tt)

-- ---- lists
numbers-length : (nodes : List Node) (rows : List Row) → length (leaf_numbers nodes rows) ≡ length rows
unfolding leaf_numbers
numbers-length nodes rows = length-map rows _

-- a tree of at least `count` nodes is written over all spans that changed
over-same : {ks : List ℕ} {n n' : NodeLists} (tree : List (Entry singles)) (count : ℕ) → count ≤ length tree → SpansOf ks count n n' → holding tree n' ≡ holding tree n
unfolding holding
over-same {n = n} {n' = n'} tree count few by =
    let new : List layout.Span = map entry_span tree in
    let far = length new - count in
    let at : count + far ≡ length new = omega (arith, length-map tree entry_span) in
    let past : drop (length new) n'.spans ≡ drop (length new) n.spans =
    ap (λ (k : ℕ). drop k n'.spans) (sym at) ∙ sym (drop-drop far count n'.spans) ∙ ap (drop far) by.rest
    ∙ drop-drop far count n.spans ∙ ap (λ (k : ℕ). drop k n.spans) at in
    rw (past, by.nodes)

-- ---- from what the checks ensure
number-endless : Number singles.endless
unfolding is_nan
number-endless = tt

module _ {job : Job} {counts : List ℕ} {x : Flat} {n : NodeLists} {q : QueueLists} {count : ℕ}
    (c : Seedable job (lists x n q counts) count) where
  abbrev limit : ℕ
  limit = job.settings.max_leaves

  abbrev seed : List (Record singles)
  seed = seed_in count n

  abbrev nodes : List Node
  nodes = nodes_of seed

  room-count : HasRoom count n
  room-count = room-fewer c.room (omega arith)

  pub orderable : Orderable x n counts count
  orderable = record {
    shaped = c.fitting.shaped;
    few = c.fitting.few;
    sound = c.sound;
    room = room-count;
    space = omega (arith, c.space);
    zeros = c.fitting.zeros;
  }

  pub seed-fits : (0 < count) × (count ≤ max_nodes)
  seed-fits = seed-few count n room-count c.sound

  -- one leaf more than splits
  pub leaves_are : (count + 1) / 2 ≡ leaf_count nodes
  leaves_are =
      let long = nodes-length count n room-count in
      let two = tree-count nodes (sounds.sound seed c.sound).rooted (omega (arith, seed-fits.0)) in
      omega arith

  module _ {counts1 : List ℕ} {y : Flat} {n1 : NodeLists} {leaves : ℕ} (same : counts1 ≡ counts)
      (by : OrderedBy (numbers_in count n (held_in x)) count x y n n1) (told : leaves ≡ (count + 1) / 2) where
    abbrev scored : Bool
    scored = ltb leaves limit

    -- the seed has no use for the spans
    seed-same : seed_in count n1 ≡ seed_in count n
    seed-same = ap (λ (l : List MaNode). tree_in count (map stored_of l)) by.spans_are.nodes

    room1 : HasRoom count n1
    room1 = record { nodes = rw by.spans_are.nodes room-count.nodes; spans = omega (arith, by.spans_are.long, room-count.spans) }

    numbers-same : numbers_in count n (held_in x) ≡ leaf_numbers (nodes_of (seed_in count n1)) (held_in x)
    numbers-same = ap (λ (l : List (Record singles)). leaf_numbers (nodes_of l) (held_in x)) (sym seed-same)

    fits1 : Fitting job counts1 y
    fits1 = subst (λ (l : List ℕ). Fitting job l y) (sym same)
        (ordered-fitting (numbers_in count n (held_in x)) count c.fitting by.size by.rows)

    pub plants : Plants job (lists y n1 q counts1) count scored (held_in x)
    plants = record {
      fitting = fits1;
      logs_small = subst (λ (k : ℕ). LogsWithin k job.logs.now) (sym (count_still by.size)) c.logs_small;
      room = room1;
      sound = ap fault_of seed-same ∙ c.sound;
      rows = by.rows ∙ ap (λ (l : List ℕ). ordered_by l count (held_in x)) numbers-same;
      many = length-held x.props x.toks x.res ∙ sym (count_still by.size);
      spans = λ i h. by.spans_are.there i h ∙ ap (λ (l : List ℕ). span (first_of l i) (first_of l (suc i))) numbers-same;
      queue_room = λ t.
          let less = ltb-true leaves limit t in
          let all : leaf_count (nodes_of (seed_in count n1)) ≡ leaf_count nodes = ap (λ (l : List (Record singles)). leaf_count (nodes_of l)) seed-same in
          room-queue (omega (arith, leaves_are, told)) (same-itself q) c.queue_room;
    }

    pub sowable : Sowable job (lists y n1 q counts1) count scored
    sowable = record { given = held_in x; plants = plants }

    -- ---- all nodes are planted
    module _ {counts2 : List ℕ} {z : Flat} {n2 : NodeLists} {q2 : Queue} {r : Tree}
        (done : PlantedTo job (lists y n1 q counts1) (work counts2 z n2 q2) r count count scored (held_in x)) where
      abbrev st : State singles
      st = seed_state (job_in job x) seed (held_in x)

      abbrev st1 : State singles
      st1 = seeded_to (job_of single (settings_of job.settings) job.logs.now (uses_of job.settings y)) (seed_in count n1) (held_in x) count

      size : SameSize x z
      size = size-then by.size done.size

      state-is : st1 ≡ st
      state-is =
          (λ t. seeded_to (job_of single (settings_of job.settings) job.logs.now (sym (uses_still job.settings by.size) t)) (seed-same t) (held_in x) (sym (seed-length count n room-count) t))
          ∙ seeded-all (job_in job x) seed (held_in x)

      tree-long : length st.tree ≡ count
      tree-long =
          ap (λ (w : State singles). length w.tree) (sym state-is)
          ∙ seeded-length (job_of single (settings_of job.settings) job.logs.now (uses_of job.settings y)) (seed_in count n1) (held_in x) count (omega (arith, seed-length count n1 room1))

      counted : r.nodes ≡ length st.tree
      counted = done.sown.counted ∙ ap (λ (w : State singles). length w.tree) state-is

      -- no row is left
      none_left : drop (first_of (leaf_numbers (nodes_of (seed_in count n1)) (held_in x)) count) (held_in y) ≡ []
      none_left =
          let ks : List ℕ = leaf_numbers (nodes_of (seed_in count n1)) (held_in x) in
          let long : length (held_in x) ≡ length ks = keys-long in
          ap (drop (first_of ks count)) plants.rows ∙ ap (λ (k : ℕ). drop k (ordered_by ks count (held_in x)))
          (sym (length-ordered no_row ks count (held_in x) long))
          ∙ drop-length (ordered_by ks count (held_in x))
        where
          keys-long : length (held_in x) ≡ length (leaf_numbers (nodes_of (seed_in count n1)) (held_in x))
          keys-long = sym (numbers-length (nodes_of (seed_in count n1)) (held_in x))

      rows_are : held_in z ≡ st.rows
      rows_are = done.sown.rows ∙ ap (λ (l : List Row). st1.rows ++ l) none_left ∙ append-nil st1.rows ∙ ap (λ (w : State singles). w.rows) state-is

      -- the spans of the seed are written over
      lists_are : n2 ≡ holding st.tree n
      lists_are = done.sown.nodes ∙ ap (λ (w : State singles). holding w.tree n1) state-is
          ∙ over-same st.tree count (omega (arith, tree-long)) by.spans_are

      waiting_few : q2.waiting + (limit - (count + 1) / 2) ≤ limit
      waiting_few = go scored refl
        where
          all : leaf_count (nodes_of (seed_in count n1)) ≡ leaf_count nodes
          all = ap (λ (l : List (Record singles)). leaf_count (nodes_of l)) seed-same

          go : (b : Bool) → scored ≡ b → q2.waiting + (limit - (count + 1) / 2) ≤ limit
          go true t = omega (arith, done.few, leaves-few (nodes_of (seed_in count n1)) count, all, leaves_are, told, ltb-true leaves limit t)
          go false t = omega (arith, done.sown.idle t, told, ltb-false leaves limit t)

      room-more : count + 2 * (limit - (count + 1) / 2) ≤ max (2 * limit - 1) count
      room-more = omega (arith, two-leaves)
        where
          two-leaves : count + 1 ≡ 2 * ((count + 1) / 2)
          two-leaves =
              let long = nodes-length count n room-count in
              let two = tree-count nodes (sounds.sound seed c.sound).rooted (omega (arith, seed-fits.0)) in
              omega (arith, leaves_are)

      grows : Grows job (work counts2 z n2 q2) r (limit - (count + 1) / 2) n st (splits_of seed) (held_in x)
      grows = record {
        fitting = done.sown.fitting;
        rows = rows_are;
        nodes = lists_are;
        room = rw tree-long (room-fewer c.room room-more);
        few = rw tree-long (omega (arith, room-more, c.fitting.settings.limit.1, seed-fits.1));
        queued = λ some_more. subst (λ (w : State singles). Queued q2.waiting (queue_in q2) (queue_of w.tree)) state-is
            (done.sown.queued (lt-ltb leaves limit (omega (arith, told))));
        queue_room = room-queue waiting_few done.queue c.queue_room;
        counted = counted;
        summed = done.sown.summed ∙ ap (λ (w : State singles). w.bits) state-is;
        inv = subst (λ (b : Bool). Invariant b (splits_of seed) (held_in x) st) (uses_still job.settings size)
            (seed_keeps single-lawful.bounds (job_in job x) seed (held_in x) c.lawful c.sound);
        weighed = seed-weighed single-lawful.bounds (job_in job x) seed (held_in x) c.lawful c.sound;
        healthy = seed-healthy single-lawful.bounds (job_in job x) seed (held_in x) c.lawful c.sound;
        sized = subst (λ (k : ℕ). Sized Number k st) (sym (count_still size))
            (seed-sized Number (row_count x) (job_in job x) nought-number
            (λ mode rows h. evaluated_number c.fitting mode rows h) number-endless seed (held_in x)
            (omega (arith, length-held x.props x.toks x.res)));
        shallow = λ k h. seed-shallow single (settings_of job.settings) job.logs.now (uses_of job.settings x) seed (held_in x) k;
      }

      pub seeded : Seeded job (lists x n q counts) (work counts2 z n2 q2) count r
      seeded =
          let all : r.nodes ≡ count = counted ∙ tree-long in
          record {
            grows = subst (λ (k : ℕ). Grows job (work counts2 z n2 q2) r (limit - (k + 1) / 2) n st (splits_of seed) (held_in x)) (sym all) grows;
            leaves = ap (λ (k : ℕ). (k + 1) / 2) all ∙ leaves_are;
            size = size;
            queue = done.queue;
          }

      pub seeded-zeros : counts2 ≡ counts
      seeded-zeros = done.zeros ∙ same
