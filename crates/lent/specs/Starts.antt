-- What the first parts of learning and deepening ask for once the checks have passed (document 01, "The learner, leaves first"). Assumes nothing.
use Rattle.std.specs.Prelude.{ℕ, ◌*◌, ◌-◌, List, ℤ}
use Rattle.model.specs.Accepting.{LogsWithin, SingleSmall, JobFits}
use Rattle.refuse.specs.declared.Job.{Job}
use Rattle.layout.specs.Tree.{HasRoom}
use Rattle.layout.specs.Waiting.{QueueRoom}
use Rattle.rows.specs.Flat.{Flat, flat, row_count}
use Rattle.lent.specs.Fitting.{Fitting}
use Rattle.lent.specs.Lists.{Lists}
use Rattle.lent.specs.Grows.{job_in}

-- the lists have room for a tree of so many leaves
pub record Plantable (job : Job) (x : Lists) : Type 0 where
  pub fitting : Fitting job x.counts x.rows
  pub lawful : JobFits SingleSmall (job_in job x.rows) (row_count x.rows)
  pub logs_small : LogsWithin (row_count x.rows) job.logs.now
  pub room : HasRoom (2 * job.settings.max_leaves - 1) x.nodes
  pub queue_room : QueueRoom job.settings.max_leaves x.queue

-- properties and tokens of fitting lists, with whatever residuals
pub record Flattened (job : Job) (counts : List ℕ) (x : Flat) : Type 0 where
  pub res : List ℤ
  pub fitting : Fitting job counts (flat x.props x.toks res)
