-- `sampling::pick_rows` meets its contract: after k turns the first k numbers are written. Assumes nothing.
use mathlib.Core.Path.{◌≡◌}
use mathlib.Core.List.{map}
use Prim.Native.Nat.{ℕ, ◌*◌, ◌/◌, ◌≤◌}
use lib.ListN.{length}
use Rattle.model.specs.Lists.{range, written_over}
use Rattle.sampling.proofs.pick_rows.Given as goal

abbrev pub invariant-loop-k : goal.invariant-loop-k
invariant-loop-k l = (l.k ≤ l.picked) × (length l.row-items ≡ l.picked) × (l.row-items ≡ written_over (map (λ (i : ℕ). i * l.rows / l.picked) (range 0 l.k)) l.initial.row-items)
