-- Every cost is finite: at most 257 × 2 ^ 22 in size, where the logarithms that are read lie from 0 to 32. Assumes nothing.
use mathlib.Core.List.{List}
use Prim.Native.Nat.{ℕ, ◌*◌, ◌^◌}
use lib.Ieee.{Float}
use Rattle.ieee.specs.Within.{Within}
use Rattle.model.specs.Single.{singles}
use Rattle.model.specs.Cost.{log_of, histogram_cost}
use Rattle.model.specs.Accepting.{LogsWithin}
use Rattle.model.proofs.Bounded.{between, counts-within}
use Rattle.cost.specs.Counted.{LogsReach, Counted}
use Rattle.cost.proofs.Sums.{rows_are}

-- a logarithm that is read
pub log_within : (rows : ℕ) (logs : List Float) → LogsReach rows logs → LogsWithin rows logs
log_within rows logs l c p h = between (log_of singles logs c) 5 (l.fit c p h)

pub cost-within : (hist : List ℕ) (total : ℕ) (logs : List Float) → Counted hist total logs → LogsReach total logs → Within (257 * 2 ^ 22) (histogram_cost singles logs total hist)
cost-within hist total logs h l = counts-within hist total logs (rw (← rows_are hist) h.rows) h.small h.tokens (log_within total logs l)
