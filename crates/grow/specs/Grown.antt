-- One split to make, and what growth leaves (document 01, "Growth"). Assumes nothing.
use Rattle.std.specs.Prelude.{ℕ, ◌+◌, ◌<◌, ◌≡◌, List, length}
use Rattle.model.specs.Single.{singles}
use Rattle.model.specs.Grow.{State}
use Rattle.refuse.specs.declared.Job.{Job}
use Rattle.layout.specs.declared.Tree.{Tree}
use Rattle.layout.specs.Tree.{NodeLists, holding}
use Rattle.layout.specs.Waiting.{foremost}
use Rattle.queue.specs.Lent.{queue_in}
use Rattle.rows.specs.Flat.{Flat, held_in, SameSize}
use Rattle.lent.specs.Fitting.{Fitting}
use Rattle.lent.specs.Lists.{Work}
use Rattle.lent.specs.Grows.{Growable}

-- the leaf at place k of the queue is the one to take, and there is one split to make, with `left` more to follow
pub record Splits (job : Job) (w : Work) (tree : Tree) (left k : ℕ) : Type 0 where
  pub growable : Growable job w tree (left + 1)
  pub some_wait : 0 < w.queue.waiting
  pub best : k ≡ foremost (queue_in w.queue) w.nodes.spans w.queue.waiting

-- what the lists hold at exit
pub record GrownTo (job : Job) (counts : List ℕ) (x y : Flat) (lists : NodeLists) (r : Tree)
    (lent : NodeLists) (st : State singles) : Type 0 where
  pub rows : held_in y ≡ st.rows
  pub size : SameSize x y
  pub nodes : lists ≡ holding st.tree lent
  pub counted : r.nodes ≡ length st.tree
  pub summed : r.bits ≡ st.bits
  pub fitting : Fitting job counts y
