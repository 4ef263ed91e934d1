-- What the parts of one split leave in the rows, the nodes and the queue (document 01, "Growth"). Assumes nothing.
use Rattle.std.specs.Prelude.{ℕ, ◌+◌, ◌≡◌, Bool, List, ◌++◌, length, take, drop, ℤ}
use Rattle.model.specs.Single.{singles}
use Rattle.model.specs.Grow.{Entry}
use Rattle.model.specs.Rows.{Row, Span, is_above, within}
use Rattle.model.specs.Mode.{span_mode, fresh}
use Rattle.model.specs.Partition.{above_rows, other_rows}
use Rattle.refuse.specs.Given.{settings_of}
use Rattle.refuse.specs.declared.Job.{Job}
use Rattle.layout.specs.Records.{span_is}
use Rattle.layout.specs.Tree.{NodeLists, put, leaf_with, put_split}
use Rattle.rows.specs.Cells.{span}
use Rattle.rows.specs.Flat.{Flat, held_in, Changed}
use Rattle.rows.specs.Parted.{Divisible}
use Rattle.evaluate.specs.Evaluated.{Evaluated}
use Rattle.lent.specs.Fitting.{uses_of, Fitting}
use Rattle.grow.specs.declared.Side.{Side}
use Rattle.grow.specs.declared.Sides.{Sides}

-- ---- the rows
-- "Rows above the threshold go first; both parts take their own mode": the rows of gt, and of le
abbrev pub gt_of : Bool → ℕ → ℤ → Span → List Row → List Row
gt_of uses prop val sp rows = fresh uses (above_rows (is_above prop val) (within sp rows))

abbrev pub le_of : Bool → ℕ → ℤ → Span → List Row → List Row
le_of uses prop val sp rows = fresh uses (other_rows (is_above prop val) (within sp rows))

-- all rows; those outside the span stay where they are
unfoldable pub divided : Bool → ℕ → ℤ → Span → List Row → List Row
divided uses prop val sp rows = take sp.first rows ++ gt_of uses prop val sp rows ++ le_of uses prop val sp rows ++ drop sp.end rows

-- the lists fit, and the property tells the rows of the span apart
pub record RowsFit (job : Job) (counts : List ℕ) (prop : ℕ) (sp : Span) (x : Flat) : Type 0 where
  pub fitting : Fitting job counts x
  pub divisible : Divisible sp prop x

-- y is x divided, le's rows begin where gt's end, and both parts are evaluated at the depth
pub record RowsSplit (scored : Bool) (job : Job) (counts : List ℕ)
    (depth prop : ℕ) (val : ℤ) (sp : Span) (x y : Flat) (r : Sides) : Type 0 where
  pub gt_rows : span_is r.gt.span ≡ span sp.first (sp.first + length (gt_of (uses_of job.settings x) prop val sp (held_in x)))
  pub le_rows : span_is r.le.span ≡ span (sp.first + length (gt_of (uses_of job.settings x) prop val sp (held_in x))) sp.end
  pub changed : Changed (divided (uses_of job.settings x) prop val sp) x y
  pub gt : Evaluated r.gt.leaf scored (settings_of job.settings) job.logs.now
      (span_mode (uses_of job.settings x) (gt_of (uses_of job.settings x) prop val sp (held_in x))) depth (gt_of (uses_of job.settings x) prop val sp (held_in x))
  pub le : Evaluated r.le.leaf scored (settings_of job.settings) job.logs.now
      (span_mode (uses_of job.settings x) (le_of (uses_of job.settings x) prop val sp (held_in x))) depth (le_of (uses_of job.settings x) prop val sp (held_in x))
  pub fitting : Fitting job counts y
  pub depth_is : r.depth ≡ depth

-- ---- the nodes
-- a new leaf as the node lists have it, at its depth
abbrev pub side_entry : Side → ℕ → Entry singles
side_entry s depth = leaf_with s.leaf.info s.span.first s.span.end depth

-- node i becomes a split over the nodes n and n + 1; "gt then le are appended"
unfoldable pub split_nodes : ℕ → ℕ → ℤ → ℕ → Sides → NodeLists → NodeLists
split_nodes i prop val n r x = put (n + 1) (side_entry r.le r.depth) (put n (side_entry r.gt r.depth) (put_split i prop val n x))
