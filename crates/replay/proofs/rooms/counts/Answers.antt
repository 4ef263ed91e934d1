-- `replay::rooms::counts` meets its contract. Assumes nothing.
use Rattle.std.proofs.Common.{◌≡◌, ℕ, ◌<◌, get_or, replicate, arith}
use lib.ListN.{get_or-replicate, length-replicate}
use Rattle.replay.proofs.rooms.counts.Goals as goal

zero : (i : ℕ) → i < 4096 → ◌≡◌ {A = ℕ} (get_or (replicate 4096 0) i 0) 0
zero i lt = get_or-replicate {A = ℕ} 4096 i 0 0 lt

pub returns-clause-zeros : goal.returns-clause-zeros
returns-clause-zeros c = record { long = omega (arith, length-replicate {A = ℕ} 4096 0); zeros = zero }

pub returns-clause-blank : goal.returns-clause-blank
returns-clause-blank c = record { long = omega (arith, length-replicate {A = ℕ} 4096 0); zeros = zero }
