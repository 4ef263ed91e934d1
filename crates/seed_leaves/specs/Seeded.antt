-- What planting a seed asks for, and what it leaves: the lists that growth starts from (document 01, "Deepening"). Assumes nothing.
use Rattle.std.specs.Prelude.{ℕ, ◌+◌, ◌-◌, ◌*◌, ◌/◌, ◌≤◌, max, ◌≡◌, Bool, not, List, length, get_or}
use Rattle.std.proofs.Math.Option.{none}
use Rattle.model.specs.Single.{singles}
use Rattle.model.specs.Tree.{leaf, is_leaf, Record, nodes_of, fault_of}
use Rattle.model.specs.Learn.{leaf_count}
use Rattle.model.specs.Deepen.{seed_state}
use Rattle.model.specs.Accepting.{LogsWithin, SingleSmall, JobFits}
use Rattle.refuse.specs.declared.Job.{Job}
use Rattle.layout.specs.declared.Tree.{Tree}
use Rattle.layout.specs.Tree.{HasRoom}
use Rattle.layout.specs.Waiting.{QueueRoom, SameQueue}
use Rattle.queue.specs.Lent.{queue_in}
use Rattle.rows.specs.Flat.{held_in, row_count, SameSize}
use Rattle.lent.specs.Fitting.{Fitting}
use Rattle.lent.specs.Lists.{Lists, Work}
use Rattle.lent.specs.Grows.{job_in, Grows}
use Rattle.seed_rows.specs.Ordered.{seed_in}

-- what the checks of deepening ensure: 1 to 7, the rooms of a seed of `count` nodes, and a sound seed
pub record Seedable (job : Job) (x : Lists) (count : ℕ) : Type 0 where
  pub fitting : Fitting job x.counts x.rows
  pub lawful : JobFits SingleSmall (job_in job x.rows) (length (held_in x.rows))
  pub logs_small : LogsWithin (row_count x.rows) job.logs.now
  pub room : HasRoom (max (2 * job.settings.max_leaves - 1) count) x.nodes
  pub queue_room : QueueRoom job.settings.max_leaves x.queue
  pub space : row_count x.rows + 2 * count ≤ length x.counts
  pub sound : fault_of (seed_in count x.nodes) ≡ none

-- which nodes are the seed's splits
abbrev pub splits_of : List (Record singles) → ℕ → Bool
splits_of seed k = not (is_leaf (get_or (nodes_of seed) k leaf))

-- The lists hold the model's state of the seed, and there is room for as many splits as the limit allows. Rows and queue have as many entries as they had
pub record Seeded (job : Job) (x : Lists) (w : Work) (count : ℕ) (r : Tree) : Type 0 where
  pub grows : Grows job w r (job.settings.max_leaves - (r.nodes + 1) / 2) x.nodes
      (seed_state (job_in job x.rows) (seed_in count x.nodes) (held_in x.rows)) (splits_of (seed_in count x.nodes)) (held_in x.rows)
  pub leaves : (r.nodes + 1) / 2 ≡ leaf_count (nodes_of (seed_in count x.nodes))
  pub size : SameSize x.rows w.rows
  pub queue : SameQueue x.queue (queue_in w.queue)
