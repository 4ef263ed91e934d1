-- What growth asks for and keeps (document 01, "Growth"): lists that hold a state of the model, with room for so many more splits. Assumes nothing.
use Rattle.std.specs.Prelude.{ℕ, ◌+◌, ◌*◌, ◌≤◌, ◌<◌, ◌≡◌, Bool, not, List, length, get_or, T, Float}
use Rattle.std.proofs.Math.Option.{some}
use Rattle.std.specs.Float.Ieee.{is_nan}
use Rattle.model.specs.Settings.{max_nodes, max_depth}
use Rattle.model.specs.Rows.{Row}
use Rattle.model.specs.Single.{singles}
use Rattle.model.specs.Profile.{job_of, single}
use Rattle.model.specs.Job as model
use Rattle.model.specs.Job.{Offer}
use Rattle.model.specs.Grow.{State, no_entry}
use Rattle.model.specs.Accepting.{SingleSmall}
use Rattle.model.specs.Kept.{Invariant, Weighed, Healthy, Sized}
use Rattle.refuse.specs.Given.{settings_of}
use Rattle.refuse.specs.declared.Job.{Job}
use Rattle.layout.specs.declared.Tree.{Tree}
use Rattle.layout.specs.Tree.{NodeLists, holding, HasRoom}
use Rattle.layout.specs.Waiting.{Queued, QueueRoom, queue_of}
use Rattle.queue.specs.Lent.{queue_in}
use Rattle.rows.specs.Flat.{Flat, held_in, row_count}
use Rattle.lent.specs.Fitting.{uses_of, Fitting}
use Rattle.lent.specs.Lists.{Work}

-- the job over these rows, as the model has it
abbrev pub job_in : Job → Flat → model.Job singles
job_in job x = job_of single (settings_of job.settings) job.logs.now (uses_of job.settings x)

-- no NaN: the growth term then is none either, and can be added in double
abbrev pub Number : Float → Type 0
Number c = T (not (is_nan c))

-- The lists hold the state `st`, over what was `lent`, and there is room for `more` splits. What waits is looked at only if there are more splits to make
pub record Grows (job : Job) (w : Work) (tree : Tree) (more : ℕ)
    (lent : NodeLists) (st : State singles) (seeds : ℕ → Bool) (given : List Row) : Type 0 where
  pub fitting : Fitting job w.counts w.rows
  pub rows : held_in w.rows ≡ st.rows
  pub nodes : w.nodes ≡ holding st.tree lent
  pub room : HasRoom (length st.tree + 2 * more) lent
  pub few : length st.tree + 2 * more ≤ max_nodes
  pub queued : 0 < more → Queued w.queue.waiting (queue_in w.queue) (queue_of st.tree)
  pub queue_room : QueueRoom (w.queue.waiting + more) (queue_in w.queue)
  pub counted : tree.nodes ≡ length st.tree
  pub summed : tree.bits ≡ st.bits
  pub inv : Invariant (uses_of job.settings w.rows) seeds given st
  pub weighed : Weighed st
  pub healthy : Healthy SingleSmall seeds given st
  pub sized : Sized Number (row_count w.rows) st
  pub shallow : (k : ℕ) → k < length st.tree → (o : Offer singles)
      → (get_or st.tree k no_entry).offer ≡ some o → (get_or st.tree k no_entry).depth < max_depth

-- there is such a state
pub record Growable (job : Job) (w : Work) (tree : Tree) (more : ℕ) : Type 0 where
  pub lent : NodeLists
  pub state : State singles
  pub seeds : ℕ → Bool
  pub given : List Row
  pub grows : Grows job w tree more lent state seeds given
