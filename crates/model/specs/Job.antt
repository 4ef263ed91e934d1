-- What growth, pruning and settling need to know of a job: how a node is evaluated, and the order of waiting leaves. Assumes nothing.
use Rattle.std.specs.Prelude.{ℕ, Bool, not, ◌&&◌, ◌||◌, List, ℤ, ltb}
use Rattle.std.proofs.Math.Option.{Option}
use Rattle.model.specs.Meter.{Meter}
use Rattle.model.specs.Rows.{Row}
use Rattle.model.specs.Tree.{Info}

-- the split that a node offers
pub record Offer (M : Meter) : Type 0 where
  pub prop : ℕ
  pub val : ℤ
  pub gain : M.Cost
  -- the number of rows that go to le (02, a)
  pub below : ℕ

-- what the order of waiting leaves looks at: a leaf's gain, and how many rows it has
pub record Claim (M : Meter) : Type 0 where
  pub gain : M.Cost
  pub rows : ℕ

-- The first claim, of a higher node number, is taken before the second: the greater gain goes first, at equal gains the leaf with more rows, and only then
-- the lower number (02, e)
abbrev pub larger_first : (M : Meter) → Claim M → Claim M → Bool
larger_first M c d = M.less d.gain c.gain || (not (M.less c.gain d.gain) && ltb d.rows c.rows)

pub record Job (M : Meter) : Type 0 where
  -- residuals are given and modal offsets on
  pub uses : Bool
  -- of a mode and rows whose zero tokens are the mode's: what stands beside the node
  pub info : ℤ → List Row → Info M
  -- of a depth, a cost and rows: what the node offers
  pub offered : ℕ → M.Cost → List Row → Option (Offer M)
  -- the first claim, of a higher node number, is taken before the second
  pub ahead : Claim M → Claim M → Bool
  -- the flat total of the rows as first given
  pub flat : List Row → M.Total
  -- a price above 0 prunes
  pub price : M.Cost
  pub settling : Bool

-- the job is pruned
abbrev pub prunes : {M : Meter} → Job M → Bool
prunes {M} j = M.less M.nought j.price
