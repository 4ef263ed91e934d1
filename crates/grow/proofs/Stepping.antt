-- One split of the code is one step of the model: the rows, the nodes, the queue and the estimated bits that it leaves hold the model's next state.
-- Assumes nothing.
use mathlib.Core.Path.{◌≡◌, refl, sym, ap, ◌∙◌, subst}
use mathlib.Core.Bool.{Bool, true, cond}
use mathlib.Core.List.{List, [], ◌∷◌, ◌++◌, append_assoc}
use mathlib.Core.Option.{Option, none, some}
use Prim.Native.Nat.{ℕ, suc, ◌+◌, ◌*◌, ◌^◌, ◌≤◌, ◌<◌}
use native.Mathlib.Omega.{arith}
use lib.ListN.{length, get_or, set, length-set, length-append}
use lib.IntN.{ℤ}
use lib.Dec.{ltb, lt→ltb}
use lib.Ieee.{Float, binary32, add, sub, is_nan}
use Rattle.ieee.specs.Within.{Within}
use Rattle.model.specs.Settings.{max_depth}
use Rattle.model.specs.Rows.{Row, Span}
use Rattle.model.specs.Mode.{span_mode}
use Rattle.model.specs.Single.{singles}
use Rattle.model.specs.Tree.{Info}
use Rattle.model.specs.Evaluate.{info_of, offered}
use Rattle.model.specs.Job as model
use Rattle.model.specs.Job.{Offer}
use Rattle.model.specs.Lent.{Waiting, no_waiting}
use Rattle.model.specs.Grow.{Entry, State, no_entry, grown_bits, leaf_over, gt_rows, le_rows, gt_span, le_span, gt_leaf, le_leaf, split_rows, become_split, split_at, step, steps}
use Rattle.model.specs.Accepting.{SingleSmall, JobFits}
use Rattle.model.specs.Kept.{Invariant, Weighed, Healthy, Sized}
use Rattle.model.proofs.Below.{step-weighed}
use Rattle.model.proofs.Extended.{new-cases}
use Rattle.model.proofs.Growing.{steps-sized}
use Rattle.model.proofs.Health.{steps-healthy}
use Rattle.model.proofs.Invariant.{SplitOf, split_of, split_keeps, few_parted, none_is_no_some}
use Rattle.model.proofs.Paths.{T→true}
use Rattle.model.proofs.SingleLawful.{single-lawful}
use Rattle.refuse.specs.Given.{settings_of}
use Rattle.refuse.specs.declared.Job.{Job}
use Rattle.layout.specs.declared.Tree.{Tree}
use Rattle.layout.specs.Records.{span_is}
use Rattle.layout.specs.Tree.{NodeLists, holding, put, put_split}
use Rattle.layout.specs.Values.{info_is, offer_is}
use Rattle.layout.specs.Waiting.{Queued, SameQueue, queue_of, without, waits, foremost}
use Rattle.queue.specs.declared.Queue.{Queue}
use Rattle.queue.specs.Lent.{queue_in}
use Rattle.layout.proofs.Held.{room-fewer, SameCells, same-cells, put_same, put-more, put-split}
use Rattle.layout.proofs.Queue.{StandsIn, queue-split, fewer-room, same-room}
use Rattle.rows.specs.Cells.{span}
use Rattle.rows.specs.Flat.{Flat, held_in, row_count}
use Rattle.rows.proofs.Shapes.{count_still}
use Rattle.lent.specs.Fitting.{uses_of, Fitting}
use Rattle.leaf.proofs.Making.{uses_still}
use Rattle.grow.specs.Parts.{gt_of, le_of, divided, RowsSplit, side_entry, split_nodes}
use Rattle.lent.specs.Lists.{work}
use Rattle.lent.specs.Grows.{job_in, Number, Grows}
use Rattle.grow.specs.declared.Sides.{Sides}
use Rattle.lent.proofs.Numbers.{growth_number, evaluated_within, evaluated_number, job-fits, offered-shallow}
use Rattle.grow.proofs.Choosing as choosing

module _ {job : Job} {counts : List ℕ} {x : Flat} {lists : NodeLists} {q : Queue} {tree : Tree}
    {lent : NodeLists} {st : State singles} {seeds : ℕ → Bool} {given : List Row} (left : ℕ) (g : Grows job (work counts x lists q) tree (left + 1) lent st seeds given)
    (k : ℕ) (wait : 0 < q.waiting) (best : k ≡ foremost (queue_in q) lists.spans q.waiting) where
  abbrev j : model.Job singles
  j = job_in job x

  abbrev w : Waiting singles
  w = get_or (queue_of st.tree) k no_waiting

  abbrev i : ℕ
  i = w.node

  abbrev o : Offer singles
  o = w.offer

  abbrev e : Entry singles
  e = get_or st.tree w.node no_entry

  abbrev n : ℕ
  n = length st.tree

  abbrev gt : Entry singles
  gt = gt_leaf j st.rows e o

  abbrev le : Entry singles
  le = le_leaf j st.rows e o

  abbrev next : State singles
  next = split_at j st i o

  standing : StandsIn st.tree w k
  standing = choosing.stands_there left g k wait best

  shape : SplitOf (uses_of job.settings x) st next i o gt le
  shape = split_of j seeds given st g.inv i standing.within (choosing.was_leaf left g k wait best) o

  many : length st.rows ≡ row_count x
  many = choosing.rows-many g

  -- ---- the parts of the next state that the lists have no say in
  fits-given : JobFits SingleSmall j (length given)
  fits-given = subst (λ (m : ℕ). JobFits SingleSmall j m) (sym many ∙ g.healthy.counted) (job-fits g.fitting (uses_of job.settings x))

  next-inv : Invariant (uses_of job.settings x) seeds given next
  next-inv = split_keeps j seeds given st g.inv i standing.within (choosing.was_leaf left g k wait best) o

  one-step : steps j 1 st ≡ next
  unfolding steps
  one-step = choosing.step-splits left g k wait best

  next-weighed : Weighed next
  next-weighed = subst Weighed (choosing.step-splits left g k wait best) (step-weighed j fits-given.offer_fits seeds given st g.inv g.weighed)

  next-healthy : Healthy SingleSmall seeds given next
  next-healthy =
      subst (λ (t : State singles). Healthy SingleSmall seeds given t) one-step
      (steps-healthy single-lawful.bounds j given fits-given seeds 1 st g.inv g.healthy).0

  next-sized : Sized Number (row_count x) next
  unfolding is_nan
  next-sized =
      subst (λ (t : State singles). Sized Number (row_count x) t) one-step
      (steps-sized Number (row_count x) j tt (evaluated_number g.fitting) 1 st g.sized)

  leaf-shallow : (rows : List Row) (mode : ℤ) (sp : Span) (depth : ℕ) (p : Offer singles)
      → (leaf_over j rows mode sp depth).offer ≡ some p → (leaf_over j rows mode sp depth).depth < max_depth
  unfolding leaf_over
  leaf-shallow rows mode sp depth p q = offered-shallow (settings_of job.settings) job.logs.now depth (info_of (settings_of job.settings) job.logs.now mode rows).cost rows p q

  gt-shallow : (p : Offer singles) → gt.offer ≡ some p → gt.depth < max_depth
  unfolding gt_leaf
  gt-shallow p q = leaf-shallow (gt_rows j st.rows e o) (span_mode (uses_of job.settings x) (gt_rows j st.rows e o)) (gt_span j st.rows e o) (suc e.depth) p q

  le-shallow : (p : Offer singles) → le.offer ≡ some p → le.depth < max_depth
  unfolding le_leaf
  le-shallow p q = leaf-shallow (le_rows j st.rows e o) (span_mode (uses_of job.settings x) (le_rows j st.rows e o)) (le_span j st.rows e o) (suc e.depth) p q

  split-shallow : (p : Offer singles) → (become_split e o n).offer ≡ some p → (become_split e o n).depth < max_depth
  unfolding become_split
  split-shallow p q = absurd (none_is_no_some p q)

  next-shallow : (m : ℕ) → m < length next.tree → (p : Offer singles) → (get_or next.tree m no_entry).offer ≡ some p → (get_or next.tree m no_entry).depth < max_depth
  next-shallow m h = cases m (rw shape.longer at h)
    where
      cases : (m : ℕ) → m < suc (suc n) → (p : Offer singles) → (get_or next.tree m no_entry).offer ≡ some p → (get_or next.tree m no_entry).depth < max_depth
      cases = new-cases {P = λ (m : ℕ). (p : Offer singles) → (get_or next.tree m no_entry).offer ≡ some p → (get_or next.tree m no_entry).depth < max_depth} n i
          (λ m h ne. rw (shape.old m h ne) (g.shallow m h))
          (rw shape.at split-shallow)
          (rw shape.at_gt gt-shallow)
          (rw shape.at_le le-shallow)

  -- ---- the rows
  module _ {y : Flat} {r : Sides} (cut : RowsSplit (ltb 0 left) job counts (suc w.depth) o.prop o.val e.span x y r) where
    gt-rows : gt_of (uses_of job.settings x) o.prop o.val e.span (held_in x) ≡ gt_rows j st.rows e o
    unfolding gt_rows
    gt-rows = ap (gt_of (uses_of job.settings x) o.prop o.val e.span) g.rows

    le-rows : le_of (uses_of job.settings x) o.prop o.val e.span (held_in x) ≡ le_rows j st.rows e o
    unfolding le_rows
    le-rows = ap (le_of (uses_of job.settings x) o.prop o.val e.span) g.rows

    next-rows : held_in y ≡ next.rows
    unfolding divided split_at split_rows gt_rows le_rows
    next-rows = cut.changed.rows ∙ ap (divided (uses_of job.settings x) o.prop o.val e.span) g.rows

    gt-span : span_is r.gt.span ≡ span e.span.first (e.span.first + length (gt_rows j st.rows e o))
    gt-span = cut.gt_rows ∙ ap (λ (l : List Row). span e.span.first (e.span.first + length l)) gt-rows

    le-span : span_is r.le.span ≡ span (e.span.first + length (gt_rows j st.rows e o)) e.span.end
    le-span = cut.le_rows ∙ ap (λ (l : List Row). span (e.span.first + length l) e.span.end) gt-rows

    uses-y : uses_of job.settings y ≡ uses_of job.settings x
    uses-y = sym (uses_still job.settings cut.changed.size)

    count-y : row_count y ≡ row_count x
    count-y = count_still cut.changed.size

    -- ---- the new leaves
    same-depth : suc w.depth ≡ suc e.depth
    same-depth = ap suc standing.depth

    gt-info : info_is r.gt.leaf.info ≡ gt.info
    unfolding gt_leaf leaf_over
    gt-info = cut.gt.info ∙ ap (λ (l : List Row). info_of (settings_of job.settings) job.logs.now (span_mode (uses_of job.settings x) l) l) gt-rows

    le-info : info_is r.le.leaf.info ≡ le.info
    unfolding le_leaf leaf_over
    le-info = cut.le.info ∙ ap (λ (l : List Row). info_of (settings_of job.settings) job.logs.now (span_mode (uses_of job.settings x) l) l) le-rows

    gt-offer : ltb 0 left ≡ true → offer_is r.gt.leaf.offer ≡ gt.offer
    unfolding gt_leaf leaf_over
    gt-offer last =
        cut.gt.offer
        ∙ ap (λ (b : Bool). cond b (of (gt_of (uses_of job.settings x) o.prop o.val e.span (held_in x)) (suc w.depth)) none) last
        ∙ ap (λ (l : List Row). of l (suc w.depth)) gt-rows
        ∙ ap (of (gt_rows j st.rows e o)) same-depth
      where
        of : List Row → ℕ → Option (Offer singles)
        of l d = offered (settings_of job.settings) job.logs.now d (info_of (settings_of job.settings) job.logs.now (span_mode (uses_of job.settings x) l) l).cost l

    le-offer : ltb 0 left ≡ true → offer_is r.le.leaf.offer ≡ le.offer
    unfolding le_leaf leaf_over
    le-offer last =
        cut.le.offer
        ∙ ap (λ (b : Bool). cond b (of (le_of (uses_of job.settings x) o.prop o.val e.span (held_in x)) (suc w.depth)) none) last
        ∙ ap (λ (l : List Row). of l (suc w.depth)) le-rows
        ∙ ap (of (le_rows j st.rows e o)) same-depth
      where
        of : List Row → ℕ → Option (Offer singles)
        of l d = offered (settings_of job.settings) job.logs.now d (info_of (settings_of job.settings) job.logs.now (span_mode (uses_of job.settings x) l) l).cost l

    -- ---- the estimated bits
    pub growth_is_number : (cost : Float) → cost ≡ e.info.cost → Number (sub binary32 (add binary32 r.gt.leaf.info.cost r.le.leaf.info.cost) cost)
    growth_is_number cost same =
        let a : r.gt.leaf.info.cost ≡ (info_of (settings_of job.settings) job.logs.now (span_mode (uses_of job.settings x) gt_r) gt_r).cost = ap (λ (i : Info singles). i.cost) cut.gt.info in
        let b : r.le.leaf.info.cost ≡ (info_of (settings_of job.settings) job.logs.now (span_mode (uses_of job.settings x) le_r) le_r).cost = ap (λ (i : Info singles). i.cost) cut.le.info in
        growth_number r.gt.leaf.info.cost r.le.leaf.info.cost cost
        (subst (λ (c : Float). Within (257 * 2 ^ 22) c) (sym a) (evaluated_within g.fitting (span_mode (uses_of job.settings x) gt_r) gt_r few-gt))
        (subst (λ (c : Float). Within (257 * 2 ^ 22) c) (sym b) (evaluated_within g.fitting (span_mode (uses_of job.settings x) le_r) le_r few-le))
        (subst Number (sym same) (choosing.cost-number left g k wait best))
      where
        gt_r : List Row
        gt_r = gt_of (uses_of job.settings x) o.prop o.val e.span (held_in x)

        le_r : List Row
        le_r = le_of (uses_of job.settings x) o.prop o.val e.span (held_in x)

        parted : length (gt_rows j st.rows e o) + length (le_rows j st.rows e o) ≤ length given
        parted = few_parted j seeds given st g.inv i standing.within (choosing.was_leaf left g k wait best) o g.healthy.counted

        few-gt : length gt_r ≤ row_count x
        few-gt = let h = parted in let l = ap length gt-rows in let c = g.healthy.counted in let m = many in omega arith

        few-le : length le_r ≤ row_count x
        few-le = let h = parted in let l = ap length le-rows in let c = g.healthy.counted in let m = many in omega arith

    next-bits : {now : Float} → now ≡ grown_bits singles tree.bits r.gt.leaf.info.cost r.le.leaf.info.cost e.info.cost → now ≡ next.bits
    unfolding split_at
    next-bits is =
        is
        ∙ ap (λ (b : Float). grown_bits singles b r.gt.leaf.info.cost r.le.leaf.info.cost e.info.cost) g.summed
        ∙ ap (λ (i : Info singles). grown_bits singles st.bits i.cost r.le.leaf.info.cost e.info.cost) gt-info
        ∙ ap (λ (i : Info singles). grown_bits singles st.bits gt.info.cost i.cost e.info.cost) le-info

    -- ---- the nodes
    gt-cells : SameCells (side_entry r.gt r.depth) gt
    unfolding gt_leaf leaf_over gt_span
    gt-cells = same-cells (side_entry r.gt r.depth) gt refl gt-info gt-span (cut.depth_is ∙ same-depth)

    le_cells : SameCells (side_entry r.le r.depth) le
    unfolding le_leaf leaf_over le_span
    le_cells = same-cells (side_entry r.le r.depth) le refl le-info le-span (cut.depth_is ∙ same-depth)

    next-nodes : split_nodes i o.prop o.val tree.nodes r lists ≡ holding next.tree lent
    unfolding split_nodes split_at
    next-nodes =
        let c : tree.nodes ≡ n = g.counted in
        let t : List (Entry singles) = set st.tree i (become_split e o n) in
        let size : length t ≡ n = length-set st.tree i (become_split e o n) in
        let size' : length (t ++ (gt ∷ [])) ≡ n + 1 = length-append t (gt ∷ []) ∙ ap (λ (m : ℕ). m + 1) size in
        let split : put_split i o.prop o.val n lists ≡ holding t lent =
        ap (put_split i o.prop o.val n) g.nodes ∙ put-split st.tree lent i standing.within o n in
        let first : put n (side_entry r.gt r.depth) (put_split i o.prop o.val n lists) ≡ holding (t ++ (gt ∷ [])) lent =
        ap (put n (side_entry r.gt r.depth)) split
        ∙ put_same n (side_entry r.gt r.depth) gt (holding t lent) gt-cells
        ∙ ap (λ (m : ℕ). put m gt (holding t lent)) (sym size)
        ∙ put-more t lent gt (room-fewer g.room (omega arith)) in
        let second : put (n + 1) (side_entry r.le r.depth) (holding (t ++ (gt ∷ [])) lent) ≡ holding ((t ++ (gt ∷ [])) ++ (le ∷ [])) lent =
        put_same (n + 1) (side_entry r.le r.depth) le (holding (t ++ (gt ∷ [])) lent) le_cells
        ∙ ap (λ (m : ℕ). put m le (holding (t ++ (gt ∷ [])) lent)) (sym size')
        ∙ put-more (t ++ (gt ∷ [])) lent le (room-fewer g.room (omega arith)) in
        ap (λ (m : ℕ). split_nodes i o.prop o.val m r lists) c
        ∙ ap (put (n + 1) (side_entry r.le r.depth)) first
        ∙ second
        ∙ ap (λ (u : List (Entry singles)). holding u lent) (append_assoc t (gt ∷ []) (le ∷ []))

    -- ---- the queue
    gone : (become_split e o n).offer ≡ none
    unfolding become_split
    gone = refl

    gt-depth : gt.depth ≡ suc e.depth
    unfolding gt_leaf leaf_over
    gt-depth = refl

    le-depth : le.depth ≡ suc e.depth
    unfolding le_leaf leaf_over
    le-depth = refl

    next-queue : ltb 0 left ≡ true
        → (without k (queue_of st.tree) ++ waits tree.nodes (suc w.depth) (offer_is r.gt.leaf.offer))
        ++ waits (tree.nodes + 1) (suc w.depth) (offer_is r.le.leaf.offer) ≡ queue_of next.tree
    unfolding split_at
    next-queue last =
        let rest : List (Waiting singles) = without k (queue_of st.tree) in
        ap (λ (m : ℕ). (rest ++ waits m (suc w.depth) (offer_is r.gt.leaf.offer)) ++ waits (m + 1) (suc w.depth) (offer_is r.le.leaf.offer)) g.counted
        ∙ ap (λ (a : Option (Offer singles)). (rest ++ waits n (suc w.depth) a) ++ waits (n + 1) (suc w.depth) (offer_is r.le.leaf.offer)) (gt-offer last)
        ∙ ap (λ (a : Option (Offer singles)). (rest ++ waits n (suc w.depth) gt.offer) ++ waits (n + 1) (suc w.depth) a) (le-offer last)
        ∙ ap (λ (d : ℕ). (rest ++ waits n d gt.offer) ++ waits (n + 1) (suc w.depth) le.offer) (same-depth ∙ sym gt-depth)
        ∙ ap (λ (d : ℕ). (rest ++ waits n gt.depth gt.offer) ++ waits (n + 1) d le.offer) (same-depth ∙ sym le-depth)
        ∙ sym (queue-split st.tree k (become_split e o n) gt le (choosing.waits_there left g k wait best) gone)

    longer : length next.tree ≡ n + 2
    longer = let l = shape.longer in omega arith

    -- ---- all together
    module _ {counts' : List ℕ} {lists' : NodeLists} {q' : Queue} {tree' : Tree} (space : counts' ≡ counts) (two-more : tree'.nodes ≡ tree.nodes + 2)
        (nodes : lists' ≡ split_nodes i o.prop o.val tree.nodes r lists)
        (requeued : (leaves : List (Waiting singles)) → Queued q.waiting (queue_in q) leaves
        → Queued q'.waiting (queue_in q') (without k leaves ++ waits tree.nodes (suc w.depth) (offer_is r.gt.leaf.offer) ++ waits (tree.nodes + 1) (suc w.depth) (offer_is r.le.leaf.offer)))
        (fewer : q'.waiting ≤ q.waiting + 1) (same : SameQueue (queue_in q) (queue_in q'))
        (summed : tree'.bits ≡ grown_bits singles tree.bits r.gt.leaf.info.cost r.le.leaf.info.cost e.info.cost) where
      pub grows-next : Grows job (work counts' y lists' q') tree' left lent (step j st) seeds given
      grows-next = subst (λ (t : State singles). Grows job (work counts' y lists' q') tree' left lent t seeds given)
          (sym (choosing.step-splits left g k wait best)) record {
            fitting = subst (λ (l : List ℕ). Fitting job l y) (sym space) cut.fitting;
            rows = next-rows;
            nodes = nodes ∙ next-nodes;
            room = let l = longer in room-fewer g.room (omega arith);
            few = let l = longer in let f = g.few in omega arith;
            queued = λ more. subst (λ (leaves : List (Waiting singles)). Queued q'.waiting (queue_in q') leaves)
                (next-queue (T→true (ltb 0 left) (lt→ltb 0 left (omega arith)))) (requeued (queue_of st.tree) (g.queued (omega arith)));
            queue_room = same-room same (fewer-room g.queue_room (omega arith));
            counted = let l = longer in let c = g.counted in omega arith;
            summed = next-bits summed;
            inv = subst (λ (u : Bool). Invariant u seeds given next) (sym uses-y) next-inv;
            weighed = next-weighed;
            healthy = next-healthy;
            sized = subst (λ (m : ℕ). Sized Number m next) (sym count-y) next-sized;
            shallow = next-shallow;
          }
