-- What an accepted deepening makes of its seed's splits (document 01, "Deepening"): they stay, and are never folded. Assumes nothing.
use Rattle.std.specs.Prelude.{◌≡◌, ℕ, ◌<◌, List, ℤ, pos}
use Rattle.model.specs.Settings.{Settings}
use Rattle.model.specs.Rows.{no_span}
use Rattle.model.specs.Tree.{split}
use Rattle.model.specs.Profile.{Profile}
use Rattle.model.specs.Lent.{Lent}
use Rattle.model.specs.Operations.{accepted, Tree, deepen}
use Rattle.model.specs.Promise.{span_at, record_at, Unpruned}

module _ (P : Profile) where
  -- The seed stands whole at the top of the answer. Its `count` nodes are the first of the lists x handed in; a is the answer, y the lists at exit
  pub record SeedKept (t : Settings P.meter) (count : ℕ) (x : Lent P.meter) (a : Tree P.meter) (y : Lent P.meter) : Type 0 where
    -- the number that each node of the seed has in the answer: the root's is 0, and no two have one number
    pub place : ℕ → ℕ
    pub root : place 0 ≡ 0
    pub inside : (k : ℕ) → k < count → place k < a.nodes
    pub apart : (i k : ℕ) → i < count → k < count → place i ≡ place k → i ≡ k
    -- a split is there a split on the same property and value, to the same children, with infinite cost, predictor 0, offset 0 and span (0, 0)
    pub splits : (k prop : ℕ) (val : ℤ) (gt le : ℕ) → k < count → (record_at x k).node ≡ split prop val gt le
        → ((record_at y (place k)).node ≡ split prop val (place gt) (place le))
        × ((record_at y (place k)).info ≡ record { cost = P.meter.endless; pred = 0; offset = pos 0 })
        × (span_at y (place k) ≡ no_span)
    -- without pruning each keeps its number
    pub unpruned : Unpruned P t → (k : ℕ) → place k ≡ k

  -- of every accepted deepening
  abbrev pub SeedsKept : Type 0
  SeedsKept = (t : Settings P.meter) (logs : List P.meter.Cost) (count : ℕ) (x y : Lent P.meter) (a : Tree P.meter)
      → deepen P t logs count x ≡ record { outcome = accepted a; lent = y } → SeedKept t count x a y
