-- The best split so far, as the code holds it. Assumes nothing.
use Rattle.std.specs.Prelude.{Option, Some, None}
use Rattle.model.specs.Single.{singles}
use Rattle.model.specs.Evaluate as model
use Rattle.evaluate.specs.declared.Split.{Split}

-- the property, the threshold, its cost and the number of rows that go below, or that there is none
abbrev pub best_is : Option Split → model.Best singles
best_is None = model.nowhere
best_is (Some s) = model.at s.prop s.val s.bits s.below
