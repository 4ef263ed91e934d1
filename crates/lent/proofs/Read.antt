-- What is read in the lists after acceptance: each record written with its span, and a queue of zeros. Assumes nothing.
use mathlib.Core.Path.{◌≡◌, sym, ap, ◌∙◌}
use mathlib.Core.List.{map}
use Prim.Native.Nat.{ℕ, ◌+◌, ◌*◌, ◌<◌}
use native.Mathlib.Omega.{arith}
use lib.IntN.{pos}
use lib.ListN.{length, get_or, replicate, length-replicate, get_or-replicate}
use lib.Seq.{ext_get_or}
use Rattle.model.specs.Lists.{range}
use Rattle.model.specs.Meter.{Meter}
use Rattle.model.specs.Single.{singles}
use Rattle.model.specs.Rows.{no_span}
use Rattle.model.specs.Tree.{blank_record}
use Rattle.model.specs.Learn.{Result}
use Rattle.model.specs.Lent.{stored, no_waiting}
use Rattle.model.proofs.Places.{length-each, each_at}
use Rattle.model.proofs.Vacated.{get_d_blank}
use Rattle.layout.specs.Records.{stored_of, span_is, no_record, no_span_record}
use Rattle.layout.specs.Tree.{NodeLists}
use Rattle.layout.specs.Waiting.{QueueListsOf, words_per_leaf}
use Rattle.queue.specs.Room.{leaves_lent, cleared}
use Rattle.layout.proofs.Held.{written_read}
use Rattle.lent.specs.Lists.{waiting_at, stored_queue, node_written, span_written, nodes_after}

-- ---- what was written at place i
module _ (r : Result singles) (n : NodeLists) (i : ℕ) where
  pub written-node : i < length r.records → stored_of (get_or (nodes_after r n).nodes i no_record) ≡ stored (get_or r.records i blank_record)
  unfolding nodes_after
  written-node lt = ap stored_of (written_read node_written r.records i blank_record no_record n.nodes lt)

  pub written-span : i < length r.spans → span_is (get_or (nodes_after r n).spans i no_span_record) ≡ get_or r.spans i no_span
  unfolding nodes_after
  written-span lt = ap span_is (written_read span_written r.spans i no_span no_span_record n.spans lt)

-- ---- the queue

-- over any meter, since nothing here asks what a cost is
pub queue-read : {M : Meter} (q : QueueListsOf M)
    → stored_queue (cleared q) ≡ replicate (length (stored_queue q)) no_waiting
unfolding stored_queue
queue-read {M} q =
    let n = leaves_lent q in
    let p = cleared q in
    let same : leaves_lent p ≡ n =
    rw (
      length-replicate {A = ℕ} (length q.words) 0,
      length-replicate (length q.values) (pos 0),
      length-replicate (length q.gains) M.nought,
    ) in
    let long = length-each (waiting_at q) 0 n in
    let left = length-each (waiting_at p) 0 n in
    rw (same, long)
    (ext_get_or no_waiting (map (waiting_at p) (range 0 n)) (replicate n no_waiting) (left ∙ sym (length-replicate n no_waiting))
    (λ i h.
    let lt : i < n = omega arith in
    each_at (waiting_at p) n i no_waiting lt
    ∙ rw (
      get_d_blank {A = ℕ} (length q.words) (i * words_per_leaf) 0,
      get_d_blank {A = ℕ} (length q.words) (i * words_per_leaf + 2) 0,
      get_d_blank {A = ℕ} (length q.words) (i * words_per_leaf + 1) 0,
      get_d_blank {A = ℕ} (length q.words) (i * words_per_leaf + 3) 0,
      get_or-replicate (length q.values) i (pos 0) (pos 0) (omega arith),
      get_or-replicate (length q.gains) i M.nought M.spare (omega arith),
    )
    (sym (get_or-replicate n i no_waiting no_waiting lt))))
