-- What learning asks for: a job that the checks accept (document 01, "The learner, leaves first"). Assumes nothing.
use Rattle.std.specs.Prelude.{length, replicate}
use Rattle.refuse.specs.declared.Job.{Job}
use Rattle.lent.specs.Lists.{Lists, lists}
use Rattle.lent.specs.Starts.{Plantable}

-- once the count space is cleared, a tree can be grown from the root over all rows
pub record Learnable (job : Job) (x : Lists) : Type 0 where
  pub plantable : Plantable job (lists x.rows x.nodes x.queue (replicate (length x.counts) 0))
