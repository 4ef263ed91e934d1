-- What deepening asks for: a job that the checks accept, and a sound seed (document 01, "Deepening"). Assumes nothing.
use Rattle.std.specs.Prelude.{ℕ, length, replicate}
use Rattle.refuse.specs.declared.Job.{Job}
use Rattle.lent.specs.Lists.{Lists, lists}
use Rattle.seed_leaves.specs.Seeded.{Seedable}

-- once the count space is cleared, a tree can be grown from the first `count` nodes over the rows
pub record Deepenable (job : Job) (x : Lists) (count : ℕ) : Type 0 where
  pub seedable : Seedable job (lists x.rows x.nodes x.queue (replicate (length x.counts) 0)) count
