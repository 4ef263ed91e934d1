-- `prune::price_all` meets its contract: the nodes from i on are priced. Assumes nothing.
use Prim.Native.Nat.{ℕ, ◌≤◌, ◌<◌}
use mathlib.Core.List.{List}
use lib.ListN.{length}
use Rattle.model.specs.Single.{singles}
use Rattle.model.specs.Grow.{Entry}
use Rattle.prune.specs.Prices.{ShowsTree, IsPriced}
use Rattle.prune.proofs.price_all.Given as goal

abbrev pub invariant-loop-i : goal.invariant-loop-i
invariant-loop-i l = (entries : List (Entry singles)) → ShowsTree entries l.tree → (k : ℕ) → l.i ≤ k → k < length l.tree → IsPriced l.price entries k l.prices l.splits
