-- What the checks of learning and deepening ensure of the rows' lists, the logarithms and the count space, and every part of the learner keeps. Assumes nothing.
use Rattle.std.specs.Prelude.{ℕ, ◌≤◌, ◌<◌, ◌≡◌, Bool, true, false, ◌&&◌, List, length, get_or, replicate}
use Rattle.model.specs.Lists.{is_empty}
use Rattle.model.specs.Settings.{max_rows}
use Rattle.model.specs.Profile.{single}
use Rattle.model.specs.Cost.{usable}
use Rattle.model.specs.Refuse.{counts_wanted}
use Rattle.model.specs.Accepting.{InRange}
use Rattle.refuse.specs.Given.{settings_of}
use Rattle.refuse.specs.declared.Settings.{Settings}
use Rattle.refuse.specs.declared.Job.{Job}
use Rattle.cost.specs.Counted.{LogsReach}
use Rattle.rows.specs.Cells.{span}
use Rattle.rows.specs.Flat.{Flat, Shaped, Spanned, row_count, has_residuals}

-- residuals are given and modal offsets on
abbrev pub uses_of : Settings → Flat → Bool
uses_of s x = s.modal_offsets && has_residuals x

-- the job passed its checks, and the lists fit it
pub record Fitting (job : Job) (counts : List ℕ) (x : Flat) : Type 0 where
  pub settings : InRange single (settings_of job.settings)
  pub some : is_empty (usable (settings_of job.settings)) ≡ false
  pub shaped : Shaped x
  pub few : row_count x ≤ max_rows
  pub below : (k : ℕ) → k < length x.toks → get_or x.toks k 0 < job.settings.alphabet
  pub modal : uses_of job.settings x ≡ true → 128 ≤ job.settings.alphabet
  pub logs_reach : LogsReach (row_count x) job.logs.now
  pub room : counts_wanted (settings_of job.settings) ≤ length counts
  pub zeros : counts ≡ replicate (length counts) 0

-- and the span is one of the lists
pub record LeafFits (x : Flat) (first end : ℕ) (job : Job) (counts : List ℕ) : Type 0 where
  pub fitting : Fitting job counts x
  pub spanned : Spanned (span first end) x
