-- `Stepping` in the code's own words: the leaf is told by what the code read of it. Assumes nothing.
use mathlib.Core.Path.{◌≡◌, ap, ◌∙◌, transport}
use mathlib.Core.Bool.{Bool}
use mathlib.Core.List.{List, ◌++◌}
use Prim.Native.Nat.{ℕ, suc, ◌+◌, ◌≤◌, ◌<◌}
use native.Mathlib.Numerals.{add-one}
use native.Mathlib.Omega.{arith}
use lib.ListN.{get_or}
use lib.Dec.{ltb}
use lib.Ieee.{Float, binary32, add, sub}
use Rattle.model.specs.Settings.{max_nodes}
use Rattle.model.specs.Rows.{Row}
use Rattle.model.specs.Single.{singles}
use Rattle.model.specs.Lent.{Waiting, no_waiting}
use Rattle.model.specs.Grow.{Entry, State, no_entry, grown_bits, step}
use Rattle.refuse.specs.declared.Job.{Job}
use Rattle.layout.specs.declared.Span.{Span}
use Rattle.layout.specs.declared.Tree.{Tree}
use Rattle.layout.specs.Records.{no_record, no_span_record, span_is}
use Rattle.layout.specs.Tree.{NodeLists, HasRoom}
use Rattle.layout.specs.Values.{offer_is}
use Rattle.layout.specs.Waiting.{Queued, SameQueue, queue_of, without, waits, foremost}
use Rattle.queue.specs.declared.Pending.{Pending}
use Rattle.queue.specs.declared.Queue.{Queue}
use Rattle.queue.specs.Lent.{queue_in, PendingAt}
use Rattle.rows.specs.Flat.{Flat}
use Rattle.grow.specs.Parts.{RowsSplit, split_nodes}
use Rattle.lent.specs.Lists.{work}
use Rattle.lent.specs.Grows.{job_in, Number, Grows}
use Rattle.grow.specs.declared.Sides.{Sides}
use Rattle.grow.proofs.Choosing as choosing
use Rattle.grow.proofs.Stepping as stepping

module _ {job : Job} {counts : List ℕ} {x : Flat} {lists : NodeLists} {q : Queue} {tree : Tree}
    {lent : NodeLists} {st : State singles} {seeds : ℕ → Bool} {given : List Row} (left : ℕ) (g : Grows job (work counts x lists q) tree (left + 1) lent st seeds given)
    (k : ℕ) (wait : 0 < q.waiting) (best : k ≡ foremost (queue_in q) lists.spans q.waiting)
    (p : Pending) (is : PendingAt (queue_in q) k p) (sp : Span) (read : sp ≡ get_or lists.spans p.node no_span_record)
    {y : Flat} {r : Sides} (cut : RowsSplit (ltb 0 left) job counts (p.depth + 1) p.offer.prop p.offer.val (span_is sp) x y r) where
  abbrev w : Waiting singles
  w = get_or (queue_of st.tree) k no_waiting

  abbrev e : Entry singles
  e = get_or st.tree w.node no_entry

  node-is : p.node ≡ w.node
  node-is = choosing.node-is left g k wait best p is

  prop-is : p.offer.prop ≡ w.offer.prop
  prop-is = choosing.prop-is left g k wait best p is

  val_is : p.offer.val ≡ w.offer.val
  val_is = choosing.val_is left g k wait best p is

  depth_is : p.depth + 1 ≡ suc w.depth
  depth_is = add-one p.depth ∙ ap suc (choosing.depth_is left g k wait best p is)

  span-here : span_is sp ≡ e.span
  span-here = choosing.span-here left g k wait best p is sp read

  told : RowsSplit (ltb 0 left) job counts (suc w.depth) w.offer.prop w.offer.val e.span x y r
  told = transport (λ j. RowsSplit (ltb 0 left) job counts (depth_is j) (prop-is j) (val_is j) (span-here j) x y r) cut

  pub nodes_fit : HasRoom (tree.nodes + 2) lists × ((p.node < tree.nodes) × (tree.nodes + 2 ≤ max_nodes))
  nodes_fit = (choosing.lists-room left g k wait best, (omega (arith, node-is, choosing.node-inside left g k wait best), choosing.few-nodes left g k wait best))

  abbrev parent : Float
  parent = (get_or lists.nodes p.node no_record).info.cost

  pub growth_fits : Number (sub binary32 (add binary32 r.gt.leaf.info.cost r.le.leaf.info.cost) parent)
  growth_fits = stepping.growth_is_number left g k wait best told parent (choosing.cost-is left g k wait best p is)

  module _ {counts' : List ℕ} {lists' : NodeLists} {q' : Queue} {tree' : Tree} (space : counts' ≡ counts) (two-more : tree'.nodes ≡ tree.nodes + 2)
      (nodes : lists' ≡ split_nodes p.node p.offer.prop p.offer.val tree.nodes r lists)
      (requeued : (leaves : List (Waiting singles)) → Queued q.waiting (queue_in q) leaves
      → Queued q'.waiting (queue_in q') (without k leaves ++ waits tree.nodes (p.depth + 1) (offer_is r.gt.leaf.offer) ++ waits (tree.nodes + 1) (p.depth + 1) (offer_is r.le.leaf.offer)))
      (fewer : q'.waiting ≤ q.waiting + 1) (same : SameQueue (queue_in q) (queue_in q'))
      (summed : tree'.bits ≡ grown_bits singles tree.bits r.gt.leaf.info.cost r.le.leaf.info.cost parent) where
    pub grows-on : Grows job (work counts' y lists' q') tree' left lent (step (job_in job x) st) seeds given
    grows-on =
        stepping.grows-next left g k wait best told space two-more
        (transport (λ j. lists' ≡ split_nodes (node-is j) (prop-is j) (val_is j) tree.nodes r lists) nodes)
        (transport (λ j. (leaves : List (Waiting singles)) → Queued q.waiting (queue_in q) leaves
        → Queued q'.waiting (queue_in q') (without k leaves ++ waits tree.nodes (depth_is j) (offer_is r.gt.leaf.offer) ++ waits (tree.nodes + 1) (depth_is j) (offer_is r.le.leaf.offer))) requeued)
        fewer same
        (summed ∙ ap (grown_bits singles tree.bits r.gt.leaf.info.cost r.le.leaf.info.cost) (choosing.cost-is left g k wait best p is))
