-- What learning makes of the rows in lent lists (document 01, "The learner, leaves first"). Assumes nothing.
use Rattle.model.specs.Single.{singles}
use Rattle.model.specs.Learn.{Result, learned}
use Rattle.refuse.specs.declared.Job.{Job}
use Rattle.rows.specs.Flat.{Flat, held_in}
use Rattle.lent.specs.Grows.{job_in}

-- what learning makes of the rows
abbrev pub result_in : Job → Flat → Result singles
result_in job x = learned (job_in job x) job.settings.max_leaves (held_in x)
