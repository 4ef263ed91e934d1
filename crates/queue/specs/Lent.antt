-- The queue's three lists, lent together, and the leaf that waits at a place. Assumes nothing.
use Rattle.std.specs.Prelude.{ℕ, ◌≡◌, ◌+◌, ◌*◌, get_or, set, pos}
use Rattle.std.specs.Float.{nan}
use Rattle.model.specs.Meter.{Meter}
use Rattle.model.specs.Single.{singles}
use Rattle.model.specs.Lent.{Waiting}
use Rattle.layout.specs.Waiting.{words_per_leaf, QueueListsOf, QueueLists, queue_lists, put_wait_words}
use Rattle.layout.specs.Values.{split_offered}
use Rattle.queue.specs.declared.Queue.{Queue}
use Rattle.queue.specs.declared.Pending.{Pending}

-- what the lent lists hold
abbrev pub queue_in : Queue → QueueLists
queue_in q = queue_lists q.words.now q.values.now q.gains.now

-- the same lists are lent
pub record SameQueueLent (x y : Queue) : Type 0 where
  pub words : y.words.ghost_name ≡ x.words.ghost_name
  pub values : y.values.ghost_name ≡ x.values.ghost_name
  pub gains : y.gains.ghost_name ≡ x.gains.ghost_name

-- the leaf that waits at place k
pub record PendingAt (q : QueueLists) (k : ℕ) (r : Pending) : Type 0 where
  pub node : r.node ≡ get_or q.words (k * words_per_leaf) 0
  pub prop : r.offer.prop ≡ get_or q.words (k * words_per_leaf + 1) 0
  pub depth : r.depth ≡ get_or q.words (k * words_per_leaf + 2) 0
  pub val : r.offer.val ≡ get_or q.values k (pos 0)
  pub gain : r.offer.gain ≡ get_or q.gains k nan
  pub below : r.offer.below ≡ get_or q.words (k * words_per_leaf + 3) 0

-- a waiting leaf in the model's terms
abbrev pub waiting_is : Pending → Waiting singles
waiting_is p = record { node = p.node; depth = p.depth; offer = split_offered p.offer }

-- the lists with a leaf stored at place k, over any meter
abbrev pub put_waiting : {M : Meter} → ℕ → Waiting M → QueueListsOf M → QueueListsOf M
put_waiting k w q =
    record {
      words = put_wait_words k w q.words;
      values = set q.values k w.offer.val;
      gains = set q.gains k w.offer.gain;
    }
