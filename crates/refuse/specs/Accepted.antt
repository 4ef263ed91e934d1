-- What a job is that the checks accept (document 01, "Which number comes back"). Assumes nothing.
use Rattle.std.specs.Prelude.{◌≡◌, ◌⊎◌, Bool, false, List, ℕ, ◌*◌, ◌≤◌, ◌<◌, length, get_or, pos, T, Float}
use Rattle.std.specs.Float.{nan, fin}
use Rattle.model.specs.Single.{singles}
use Rattle.model.specs.Profile.{is_between, single}
use Rattle.model.specs.Lent.{Lent, row_count}
use Rattle.model.specs.Accepting.{Passed, LogsWithin}
use Rattle.refuse.specs.declared.Settings.{Settings}
use Rattle.refuse.specs.Given.{settings_of}

-- a logarithm lies in its range, 0 to 32
abbrev pub log_fits : Float → Bool
log_fits = is_between (fin false 0 (pos 0)) (fin false 1 (pos 5))

-- A job of so many rows, of which none of conditions 1 to 7 holds: what the model says of it, and the same by rows and entries of the flat lists
pub record Accepted (s : Settings) (logs : List Float) (x : Lent singles) (rows : ℕ) : Type 0 where
  pub row_count : rows ≡ row_count x
  pub few : rows ≤ 65536
  pub props : length x.props ≡ rows * 24
  pub toks : length x.toks ≡ rows * 14
  pub res : (length x.res ≡ 0) ⊎ (length x.res ≡ rows)
  pub tokens : (k : ℕ) → k < length x.toks → get_or x.toks k 0 < s.alphabet
  pub log_fits_lem : (k : ℕ) → 0 < k → k ≤ rows → T (log_fits (get_or logs k nan))
  pub logs_small : LogsWithin rows logs
  pub model : Passed single (settings_of s) logs x
