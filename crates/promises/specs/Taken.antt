-- Which leaf learning and deepening split next, of runs of the public operations (02, e): of two accepted unpruned ones with limits k and k + 1 that are not
-- alike, the second splits the leaf of the first's tree that goes before every other leaf that offers a split: by its gain, at equal gains by its rows, "and only
-- then the lower number". `NextTakes` is the model's (Taken). Assumes nothing.
use Rattle.std.specs.Prelude.{ℕ, List, Float}
use Rattle.model.specs.Single.{singles}
use Rattle.model.specs.Job as model
use Rattle.model.specs.Profile.{single, job_of}
use Rattle.model.specs.Lent.{uses_modes}
use Rattle.model.specs.Operations.{Tree}
use Rattle.model.specs.Promise.{Unpruned}
use Rattle.model.specs.Taken.{NextTakes}
use Rattle.refuse.specs.Given.{settings_of}
use Rattle.refuse.specs.declared.Settings.{Settings}
use Rattle.border.specs.Lists.{Records, lent_in}
use Rattle.ma_tree.specs.Runs.{Learning, Deepening}
use Rattle.promises.specs.Demand3.{answered, OneLeafMore}

-- how nodes of these rows are evaluated
abbrev pub job_lent : Settings → List Float → Records → model.Job singles
job_lent s logs x = job_of single (settings_of s) logs (uses_modes (settings_of s) (lent_in x))

-- of two accepted unpruned runs that differ only in the limit
pub record Taken : Type 0 where
  pub learn_takes : (s t : Settings) (logs : List Float) (x y z : Records) (a b : Tree singles) → Unpruned single (settings_of s) → OneLeafMore s t
      → Learning s logs x (answered a) y → Learning t logs x (answered b) z → NextTakes (job_lent s logs x) s.max_leaves a (lent_in y) b (lent_in z)
  pub deepen_takes : (s t : Settings) (logs : List Float) (count : ℕ) (x y z : Records) (a b : Tree singles) → Unpruned single (settings_of s) → OneLeafMore s t
      → Deepening s logs count x (answered a) y → Deepening t logs count x (answered b) z → NextTakes (job_lent s logs x) s.max_leaves a (lent_in y) b (lent_in z)
