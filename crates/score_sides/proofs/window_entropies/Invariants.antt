-- `score_sides::window_entropies` meets its contract: each sum so far, with the counts that are left, is that side's whole sum. Assumes nothing.
use mathlib.Core.Path.{◌≡◌}
use Rattle.std.specs.Iterator.Adapters.{zip_first, zip_second}
use Rattle.std.specs.Slice.Iter.{iter_rest}
use Rattle.model.specs.Single.{singles}
use Rattle.model.specs.Cost.{entropy_from}
use Rattle.score_sides.specs.Sides.{rest, SideCounted}
use Rattle.score_sides.proofs.window_entropies.Given as goal

abbrev pub invariant-loop-count : goal.invariant-loop-count
invariant-loop-count l =
    (goal.iterator-loop-count).can_next l.count-iterator ×
    (goal.iterator-loop-count).is_finite l.count-iterator ×
    SideCounted (iter_rest (zip_first l.count-iterator)) (iter_rest (zip_second l.count-iterator)) l.logs ×
    (entropy_from singles l.logs l.side_logs.le l.le (iter_rest (zip_first l.count-iterator)) ≡ entropy_from singles l.logs l.side_logs.le singles.nought l.left) ×
    (entropy_from singles l.logs l.side_logs.gt l.gt (rest (iter_rest (zip_second l.count-iterator)) (iter_rest (zip_first l.count-iterator)))
    ≡ entropy_from singles l.logs l.side_logs.gt singles.nought (rest l.hist l.left))
