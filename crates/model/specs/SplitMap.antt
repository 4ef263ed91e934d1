-- How many rows a split sends each way, for those who draw its map (02, a): of an accepted answer, each split but a seed's parts its span between its
-- children, and le's has as many rows as the split's own has at or under its value, neither none nor all. Assumes nothing.
use Rattle.std.specs.Prelude.{◌≡◌, ℕ, ◌-◌, ◌<◌, not, List, ℤ, T}
use Rattle.model.specs.Meter.{Meter}
use Rattle.model.specs.Settings.{Settings}
use Rattle.model.specs.Rows.{Row, Span, within}
use Rattle.model.specs.Tree.{Node, split, leaf, is_leaf}
use Rattle.model.specs.Profile.{Profile}
use Rattle.model.specs.Lent.{Lent, rows_in}
use Rattle.model.specs.Operations.{accepted, Tree, learn, deepen}
use Rattle.model.specs.Promise.{span_at, record_at}
use Rattle.model.specs.Accepting.{rows_below}
use Rattle.model.specs.SeedKept.{SeedKept}

-- in the span s of a split on a property and value, gt's span stands first and le's behind it, and neither is empty
pub record PartsSpan (rows : List Row) (s : Span) (prop : ℕ) (val : ℤ) (gt le : Span) : Type 0 where
  pub gt_first : gt.first ≡ s.first
  pub gt_end : gt.end ≡ le.first
  pub le_end : le.end ≡ s.end
  pub below : le.end - le.first ≡ rows_below prop val (within s rows)
  pub some : (gt.first < gt.end) × (le.first < le.end)

-- of node k, where `span` gives each node's span: a leaf parts nothing
abbrev pub Parts : (ℕ → Span) → List Row → ℕ → Node → Type 0
Parts span rows k (split prop val gt le) = PartsSpan rows (span k) prop val (span gt) (span le)
Parts span rows k leaf = Unit {0}

-- each split of the answer a with lists y, but those that `from_seed` names
abbrev pub SplitsPart : {M : Meter} → (ℕ → Type 0) → Tree M → Lent M → Type 0
SplitsPart from_seed a y = (k : ℕ) → k < a.nodes → (from_seed k → ⊥) → Parts (span_at y) (rows_in y) k (record_at y k).node

-- no node is a seed's
abbrev pub NoSeed : ℕ → Type 0
NoSeed k = ⊥

module _ (P : Profile) where
  -- node k of the answer is a split of the seed, by the places that its nodes have there
  abbrev pub SeedSplit : {t : Settings P.meter} {count : ℕ} {x : Lent P.meter} {a : Tree P.meter} {y : Lent P.meter} → SeedKept P t count x a y → ℕ → Type 0
  SeedSplit {count = count} {x = x} kept k = (i : ℕ) × (i < count) × T (not (is_leaf (record_at x i).node)) × (kept.place i ≡ k)

  -- of every accepted learning and deepening
  pub record SplitMap : Type 0 where
    pub learn_parts : (t : Settings P.meter) (logs : List P.meter.Cost) (x y : Lent P.meter) (a : Tree P.meter)
        → learn P t logs x ≡ record { outcome = accepted a; lent = y } → SplitsPart NoSeed a y
    pub deepen_parts : (t : Settings P.meter) (logs : List P.meter.Cost) (count : ℕ) (x y : Lent P.meter) (a : Tree P.meter)
        → deepen P t logs count x ≡ record { outcome = accepted a; lent = y }
        → (kept : SeedKept P t count x a y) × SplitsPart (SeedSplit kept) a y
