-- The leaf that is split next: it is the model's choice, what the code reads of it, and that it can be split. Assumes nothing.
use mathlib.Core.Path.{◌≡◌, refl, sym, ap, ◌∙◌}
use mathlib.Core.Bool.{Bool}
use mathlib.Core.List.{List}
use Prim.Native.Nat.{ℕ, ◌+◌, ◌≤◌, ◌<◌}
use native.Mathlib.Omega.{arith}
use lib.ListN.{length, get_or}
use lib.Dec.{T, ltb→lt}
use lib.Ieee.{is_nan}
use Rattle.model.specs.Settings.{props_per_row, max_nodes, max_depth}
use Rattle.model.specs.Rows as model
use Rattle.model.specs.Rows.{Row, within}
use Rattle.model.specs.Single.{singles}
use Rattle.model.specs.Tree.{is_leaf}
use Rattle.model.specs.Lent.{Waiting, no_waiting}
use Rattle.model.specs.Grow.{Entry, State, no_entry, split_at, step_to, step}
use Rattle.model.specs.Accepting.{rows_below}
use Rattle.model.specs.Kept.{Fine}
use Rattle.model.proofs.Each.{each_get_d}
use Rattle.refuse.specs.declared.Job.{Job}
use Rattle.layout.specs.declared.Tree.{Tree}
use Rattle.layout.specs.declared.NodeInfo.{NodeInfo}
use Rattle.layout.specs.declared.Span.{Span}
use Rattle.layout.specs.Records.{no_record, no_span_record, span_is, span_record}
use Rattle.layout.specs.Tree.{NodeLists, HasRoom}
use Rattle.layout.specs.Waiting.{Queued, QueueRoom, HaveSpans, queue_of, goes_before, foremost}
use Rattle.queue.specs.declared.Pending.{Pending}
use Rattle.queue.specs.declared.Queue.{Queue}
use Rattle.queue.specs.Lent.{queue_in, PendingAt}
use Rattle.folds.proofs.First.{first_below}
use Rattle.layout.proofs.Held.{room-fewer, holding-room, held_info, held_span}
use Rattle.layout.proofs.Queue.{choice_some, best_of, chosen_at, StandsIn, stands, fewer-room}
use Rattle.layout.proofs.Queue.{best-queued, queued-node, queued-prop, queued-depth, queued-val, queued-below}
use Rattle.rows.specs.Flat.{Flat, held_in, row_count}
use Rattle.rows.proofs.Cells.{length-held}
use Rattle.grow.specs.Parts.{RowsFit}
use Rattle.lent.specs.Lists.{work}
use Rattle.lent.specs.Grows.{job_in, Number, Grows}

-- the rows of the state are those that the lists hold
pub rows-many : {job : Job} {counts : List ℕ} {x : Flat} {lists : NodeLists} {q : Queue} {tree : Tree} {more : ℕ}
    {lent : NodeLists} {st : State singles} {seeds : ℕ → Bool} {given : List Row}
    → Grows job (work counts x lists q) tree more lent st seeds given → length st.rows ≡ row_count x
rows-many {x = x} g = ap length (sym g.rows) ∙ length-held x.props x.toks x.res

-- ---- each leaf that waits
module _ {job : Job} {counts : List ℕ} {x : Flat} {lists : NodeLists} {q : Queue} {tree : Tree} {more : ℕ}
    {lent : NodeLists} {st : State singles} {seeds : ℕ → Bool} {given : List Row} (g : Grows job (work counts x lists q) tree more lent st seeds given) (some_left : 0 < more) where
  queued : Queued q.waiting (queue_in q) (queue_of st.tree)
  queued = g.queued some_left

  pub in_queue : (k : ℕ) → k < q.waiting → k < length (queue_of st.tree)
  in_queue k lt = omega (arith, queued.many)

  pub standing : (k : ℕ) → k < q.waiting → StandsIn st.tree (get_or (queue_of st.tree) k no_waiting) k
  standing k lt = stands st.tree k (in_queue k lt)

  -- its node has a span, which is its entry's
  pub have_spans : HaveSpans q.waiting (queue_in q) lists.spans
  have_spans k lt =
      let room : HasRoom (length st.tree) lists = rw g.nodes (holding-room st.tree lent (room-fewer g.room (omega arith))) in
      omega (arith, room.spans, queued-node queued k lt, (standing k lt).within)

  spans-held : (k : ℕ) → k < q.waiting → span_is (get_or lists.spans (get_or (queue_of st.tree) k no_waiting).node no_span_record) ≡ (get_or st.tree (get_or (queue_of st.tree) k no_waiting).node no_entry).span
  spans-held k lt =
      let i = (get_or (queue_of st.tree) k no_waiting).node in
      ap (λ (l : NodeLists). span_is (get_or l.spans i no_span_record)) g.nodes ∙ ap span_is (held_span st.tree lent i (standing k lt).within)

  -- the foremost of the queue is the model's
  pub place-is : foremost (queue_in q) lists.spans q.waiting ≡ best_of (job_in job x) st.tree (queue_of st.tree)
  place-is = best-queued queued (job_in job x) (λ c d. refl) st.tree lists.spans spans-held

-- ---- the leaf that is split
module _ {job : Job} {counts : List ℕ} {x : Flat} {lists : NodeLists} {q : Queue} {tree : Tree}
    {lent : NodeLists} {st : State singles} {seeds : ℕ → Bool} {given : List Row} (left : ℕ) (g : Grows job (work counts x lists q) tree (left + 1) lent st seeds given)
    (k : ℕ) (wait : 0 < q.waiting) (best : k ≡ foremost (queue_in q) lists.spans q.waiting) where
  -- the leaf that waits there, and its entry
  abbrev pub w : Waiting singles
  w = get_or (queue_of st.tree) k no_waiting

  abbrev pub e : Entry singles
  e = get_or st.tree w.node no_entry

  pub inside : k < q.waiting
  inside = let low = first_below (goes_before (queue_in q) lists.spans) q.waiting in omega arith

  pub waits_there : k < length (queue_of st.tree)
  waits_there = in_queue g (omega arith) k inside

  pub stands_there : StandsIn st.tree w k
  stands_there = standing g (omega arith) k inside

  pub was_leaf : T (is_leaf e.node)
  was_leaf = g.inv.offers w.node stands_there.within w.offer stands_there.offer

  -- the model's step splits it
  pub step-splits : step (job_in job x) st ≡ split_at (job_in job x) st w.node w.offer
  unfolding step step_to
  step-splits =
      ap (step_to (job_in job x) st)
      (choice_some (job_in job x) st.tree (omega (arith, waits_there))
      ∙ ap (λ (m : ℕ). chosen_at (get_or (queue_of st.tree) m no_waiting)) (sym (best ∙ place-is g (omega arith))))

  -- ---- what bounds it
  pub property : w.offer.prop < props_per_row
  property = ltb→lt w.offer.prop props_per_row (rw stands_there.offer at (g.healthy.entries w.node stands_there.within).offer_fits)

  pub shallow-leaf : w.depth < max_depth
  shallow-leaf = rw stands_there.depth (g.shallow w.node stands_there.within w.offer stands_there.offer)

  pub ordered : e.span.first ≤ e.span.end
  ordered = (g.inv.bounds w.node stands_there.within).0

  pub in_rows : e.span.end ≤ row_count x
  in_rows = let all = (g.inv.bounds w.node stands_there.within).1 in let many = rows-many g in omega arith

  pub cost-number : Number e.info.cost
  unfolding is_nan
  cost-number = (each_get_d (Fine Number) st.tree w.node no_entry (omega arith, tt) g.sized.entries).1

  -- ---- the rooms
  pub lists-room : HasRoom (tree.nodes + 2) lists
  lists-room =
      let many = g.counted in
      rw g.nodes (holding-room st.tree lent (room-fewer g.room (omega arith)))

  pub node-inside : w.node < tree.nodes
  node-inside = let h = stands_there.within in let many = g.counted in omega arith

  pub few-nodes : tree.nodes + 2 ≤ max_nodes
  few-nodes = let many = g.counted in let few = g.few in omega arith

  pub queue_room : QueueRoom (q.waiting + 1) (queue_in q)
  queue_room = fewer-room g.queue_room (omega arith)

  -- ---- what the code reads
  module _ (p : Pending) (is : PendingAt (queue_in q) k p) where
    pub node-is : p.node ≡ w.node
    node-is = is.node ∙ queued-node (queued g (omega arith)) k inside

    pub prop-is : p.offer.prop ≡ w.offer.prop
    prop-is = is.prop ∙ queued-prop (queued g (omega arith)) k inside

    pub depth_is : p.depth ≡ w.depth
    depth_is = is.depth ∙ queued-depth (queued g (omega arith)) k inside

    pub val_is : p.offer.val ≡ w.offer.val
    val_is = is.val ∙ queued-val (queued g (omega arith)) k inside

    -- its record and its span
    pub nodes-room : p.node < length lists.nodes
    nodes-room = omega (arith, lists-room.nodes, node-inside, node-is)

    pub spans-room : p.node < length lists.spans
    spans-room = omega (arith, lists-room.spans, node-inside, node-is)

    pub span-at : get_or lists.spans p.node no_span_record ≡ span_record e.span
    span-at = ap (λ (l : NodeLists). get_or l.spans p.node no_span_record) g.nodes ∙ rw node-is (held_span st.tree lent w.node stands_there.within)

    pub cost-is : (get_or lists.nodes p.node no_record).info.cost ≡ e.info.cost
    cost-is =
        ap (λ (l : NodeLists). (get_or l.nodes p.node no_record).info.cost) g.nodes
        ∙ rw node-is (ap (λ (i : NodeInfo). i.cost) (held_info st.tree lent w.node stands_there.within))

    module _ (sp : Span) (read : sp ≡ get_or lists.spans p.node no_span_record) where
      pub span-here : span_is sp ≡ e.span
      span-here = ap span_is (read ∙ span-at)

      -- how many rows go below, as scoring counted them
      pub below-is : p.offer.below ≡ rows_below p.offer.prop p.offer.val (within (span_is sp) (held_in x))
      below-is =
          is.below ∙ queued-below (queued g (omega arith)) k inside ∙ (g.weighed.offers w.node stands_there.within w.offer stands_there.offer).is
          ∙ sym (λ i. rows_below (prop-is i) (val_is i) (within (span-here i) (g.rows i)))

      pub rows_fit : RowsFit job counts p.offer.prop (span_is sp) x
      rows_fit =
          let from = ap (λ (l : model.Span). l.first) span-here in
          let upto = ap (λ (l : model.Span). l.end) span-here in
          record {
            fitting = g.fitting;
            divisible = record {
              spanned = record { shaped = g.fitting.shaped; ordered = omega (arith, from, upto, ordered); inside = omega (arith, upto, in_rows) };
              property = omega (arith, property, prop-is);
            };
          }
