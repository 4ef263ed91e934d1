-- What the promises ask of a profile: evaluation stays within the ranges of a sound tree, and a split's price stays below an endless cost.
-- Assumes nothing.
use mathlib.Core.Path.{◌≡◌}
use Prim.Native.Nat.{ℕ, suc, ◌+◌, ◌≤◌, ◌<◌}
use mathlib.Core.Bool.{Bool, false}
use mathlib.Core.List.{List}
use lib.ListN.{length, take, drop}
use lib.Dec.{T}
use Rattle.model.specs.Meter.{Meter}
use Rattle.model.specs.Settings.{Settings, max_rows, max_nodes}
use Rattle.model.specs.Profile.{Profile, job_of}
use Rattle.model.specs.Accepting.{JobFits}

-- how large totals grow: `Small n t` says that t is at most n units in size. The units are the meter's own: a node's cost and a price are each at most one
pub record Bounds (M : Meter) : Type 1 where
  pub Small : ℕ → M.Total → Type 0
  pub small_more : {n : ℕ} (t : M.Total) → Small n t → Small (suc n) t
  pub small_nought : Small 1 (M.total M.nought)
  pub small_kept : (m n : ℕ) (gt le : M.Total) (price : M.Cost) → m + n ≤ max_nodes → Small m gt → Small n le → Small 1 (M.total price)
      → Small (suc (m + n)) (M.add (M.add gt le) (M.total price))
  -- the endless cost of a seed's split is never at most a small total
  pub endless_above : (n : ℕ) (t : M.Total) → n ≤ suc max_nodes → Small n t → M.at_most (M.total M.endless) t ≡ false

-- a profile whose checks ensure this
pub record Lawful (P : Profile) : Type 1 where
  pub bounds : Bounds P.meter
  pub fits : (t : Settings P.meter) (logs : List P.meter.Cost) (uses : Bool) (rows : ℕ)
      → T (P.price_fits t.price) → t.alphabet ≤ 256 → rows ≤ max_rows → rows < length logs → T (P.logs_fit (take rows (drop 1 logs)))
      → JobFits bounds.Small (job_of P t logs uses) rows
