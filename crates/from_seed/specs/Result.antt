-- What deepening makes of a seed and the rows in lent lists (document 01, "Deepening"). Assumes nothing.
use Rattle.std.specs.Prelude.{ℕ}
use Rattle.model.specs.Single.{singles}
use Rattle.model.specs.Learn.{Result}
use Rattle.model.specs.Deepen.{deepened}
use Rattle.refuse.specs.declared.Job.{Job}
use Rattle.layout.specs.Tree.{NodeLists}
use Rattle.rows.specs.Flat.{Flat, held_in}
use Rattle.lent.specs.Grows.{job_in}
use Rattle.seed_rows.specs.Ordered.{seed_in}

-- what deepening makes of the seed, the first `count` nodes, and the rows
abbrev pub deepened_in : Job → ℕ → Flat → NodeLists → Result singles
deepened_in job count x n = deepened (job_in job x) job.settings.max_leaves (seed_in count n) (held_in x)
