-- The histograms of the groups of rows, end to end, and their sizes (document 01, "Flat bits"). Assumes nothing.
use Rattle.std.specs.Prelude.{ℕ, List, map, length}
use Rattle.model.specs.Lists.{range}
use Rattle.model.specs.Rows.{Row}
use Rattle.model.specs.Flat.{group_of}
use Rattle.cost.specs.Histograms.{end_to_end, histograms}

-- the histograms of all predictors, for the rows of each flat group
unfoldable pub group_histograms : ℕ → List Row → List ℕ
group_histograms alphabet rows = end_to_end (λ (g : ℕ). histograms alphabet (group_of g rows)) 4

-- how many rows each flat group has
unfoldable pub group_sizes : List Row → List ℕ
group_sizes rows = map (λ (g : ℕ). length (group_of g rows)) (range 0 4)
