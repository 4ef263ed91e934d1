-- The learner's lent lists stay the same ones. Assumes nothing.
use Rattle.std.specs.Prelude.{◌≡◌}
use Rattle.layout.specs.Lent.{SameNodesLent}
use Rattle.queue.specs.Lent.{SameQueueLent}
use Rattle.rows.specs.Lent.{SameRowsLent}
use Rattle.lent.specs.declared.Lists.{Lists}

-- the same lists are lent
pub record SameLent (x y : Lists) : Type 0 where
  pub rows : y.rows.ghost_name ≡ x.rows.ghost_name
  pub rows_lists : SameRowsLent x.rows.now y.rows.now
  pub nodes : y.at.ghost_name ≡ x.at.ghost_name
  pub nodes_lists : SameNodesLent x.at.now y.at.now
  pub queue : y.queue.ghost_name ≡ x.queue.ghost_name
  pub queue_lists : SameQueueLent x.queue.now y.queue.now
  pub counts : y.counts.ghost_name ≡ x.counts.ghost_name
