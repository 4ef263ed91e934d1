-- What was finished is what learning and deepening make and leave. Assumes nothing.
use mathlib.Core.Path.{◌≡◌}
use mathlib.Core.List.{List}
use Prim.Native.Nat.{ℕ}
use lib.ListN.{length, replicate}
use Rattle.model.specs.Single.{singles}
use Rattle.model.specs.Rows.{Row}
use Rattle.model.specs.Learn.{Result}
use Rattle.layout.specs.Tree.{NodeLists}
use Rattle.layout.specs.Waiting.{QueueLists}
use Rattle.rows.specs.Flat.{Flat, Shaped, flat_of, has_residuals}
use Rattle.rows.proofs.Whole.{flat-changed}
use Rattle.lent.specs.declared.Finished.{Finished}
use Rattle.lent.specs.Answer.{LearnedAs}
use Rattle.lent.specs.Lists.{Lists, lists, lists_after}
use Rattle.queue.specs.Room.{cleared}
use Rattle.finish.specs.Finished.{FinishedTo}

-- list by list
pub made-lists : (x : Lists) (made : Result singles) (y : Flat) (n : NodeLists) (q : QueueLists) (counts : List ℕ) (r : Finished) → Shaped x.rows → FinishedTo x.rows y n r x.nodes made
    → q ≡ cleared x.queue → counts ≡ replicate (length x.counts) 0 → lists y n q counts ≡ lists_after made x
unfolding lists_after
made-lists x made y n q counts r shaped f queue zeros =
    let rows : y ≡ flat_of (has_residuals x.rows) made.rows = flat-changed {f = λ (l : List Row). made.rows} shaped (record { rows = f.rows; size = f.size }) in
    λ i. record { rows = rows i; nodes = f.nodes i; queue = queue i; counts = zeros i }

-- what the finished tree says of itself
pub learned_as : {x y : Flat} {n lent : NodeLists} {r : Finished} {made : Result singles} → FinishedTo x y n r lent made → LearnedAs made r
learned_as f = record { counted = f.counted; few = f.few; written = f.written; leaves = f.leaves; summed = f.summed; flat = f.flat }
