-- How costs are counted: what the definitions of the learner need to know of them. The single-precision learner is one meter (Single).
-- Assumes nothing.
use Rattle.std.specs.Prelude.{ℕ, Bool}

-- `Cost` is the type of the costs of rows, of gains, prices and logarithms; `Total` that of sums over the nodes of a tree
pub record Meter : Type 1 where
  pub Cost : Type 0
  pub Total : Type 0
  -- no cost, and one above every cost, which stands beside a seed's split
  pub nought : Cost
  pub endless : Cost
  -- what a list of costs is read as where it has no entry
  pub spare : Cost
  pub less : Cost → Cost → Bool
  pub plus : Cost → Cost → Cost
  pub minus : Cost → Cost → Cost
  -- a count times a difference of logarithms
  pub times : ℕ → Cost → Cost
  -- the cost of so many extra bits
  pub extra : ℕ → Cost
  -- totals: of nothing, of one cost, of two totals, and whether one is at most the other
  pub no_total : Total
  pub total : Cost → Total
  pub add : Total → Total → Total
  pub at_most : Total → Total → Bool
