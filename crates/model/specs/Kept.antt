-- What growth keeps of a state: where the nodes' spans lie and which rows they hold, fields in range, small costs, no more rows than were handed in, and
-- offers that are said of the rows as they stand, and how many of them go below.
-- Assumes nothing.
use Rattle.std.specs.Prelude.{◌≡◌, ◌≢◌, ◌⊎◌, ℕ, ◌≤◌, ◌<◌, Bool, true, false, List, length, get_or, T, ltb}
use Rattle.std.proofs.Math.Option.{Option, none, some}
use Rattle.model.specs.Lists.{keep, Each}
use Rattle.model.specs.Meter.{Meter}
use Rattle.model.specs.Settings.{props_per_row, toks_per_row}
use Rattle.model.specs.Rows.{Row, Span, within}
use Rattle.model.specs.Mode.{fresh}
use Rattle.model.specs.Tree.{Node, split, leaf, is_leaf}
use Rattle.model.specs.Job.{Offer, Job}
use Rattle.model.specs.Grow.{Entry, State, no_entry, tree_nodes}
use Rattle.model.specs.Promise.{SameRows}
use Rattle.model.specs.Accepting.{Below}
use Rattle.model.specs.Family.{Child, Family, Deep, Anc, passes}

-- the span holds exactly the rows handed in whose way meets node k, each as often
abbrev pub HoldsPassing : Bool → List Node → List Row → List Row → Span → ℕ → Type 0
HoldsPassing uses nodes given rows s k = SameRows uses (within s rows) (keep (passes nodes k) given)

-- two nodes' spans: one before the other, or inside it with its node below the other's
abbrev pub Laid : List Node → ℕ → ℕ → Span → Span → Type 0
Laid nodes i k s t =
    (s.end ≤ t.first) ⊎ ((t.end ≤ s.first) ⊎ ((Anc nodes k i × (t.first ≤ s.first) × (s.end ≤ t.end))
    ⊎ (Anc nodes i k × (s.first ≤ t.first) × (t.end ≤ s.end))))

-- a split's property, or the predictor beside a leaf, is in range
abbrev pub FieldsFit : Node → ℕ → Type 0
FieldsFit (split prop val gt le) pred = T (ltb prop props_per_row)
FieldsFit leaf pred = T (ltb pred toks_per_row)

-- no node is a seed's
abbrev pub no_seeds : ℕ → Bool
no_seeds k = false

module _ {M : Meter} where
  -- entry k of a tree
  abbrev pub entry_at : List (Entry M) → ℕ → Entry M
  entry_at tree k = get_or tree k no_entry

  -- The invariant of growth. `seeds` says which nodes are a seed's splits, of which no span is kept
  pub record Invariant (uses : Bool) (seeds : ℕ → Bool) (given : List Row) (s : State M) : Type 0 where
    pub family : Family (tree_nodes s.tree)
    pub rooted : 0 < length s.tree
    pub bounds : (k : ℕ) → k < length s.tree
        → ((entry_at s.tree k).span.first ≤ (entry_at s.tree k).span.end) × ((entry_at s.tree k).span.end ≤ length s.rows)
    pub own : (k : ℕ) → T (is_leaf (entry_at s.tree k).node) → seeds k ≡ false
    pub endless : (k : ℕ) → seeds k ≡ true → (entry_at s.tree k).info.cost ≡ M.endless
    pub laid : (i k : ℕ) → i < length s.tree → k < length s.tree → i ≢ k
        → Laid (tree_nodes s.tree) i k (entry_at s.tree i).span (entry_at s.tree k).span
    pub holds : (k : ℕ) → k < length s.tree → seeds k ≡ false
        → HoldsPassing uses (tree_nodes s.tree) given s.rows (entry_at s.tree k).span k
    pub fresh_tokens : (k : ℕ) → k < length s.tree → T (is_leaf (entry_at s.tree k).node)
        → fresh uses (within (entry_at s.tree k).span s.rows) ≡ within (entry_at s.tree k).span s.rows
    pub offers : (k : ℕ) → k < length s.tree → (o : Offer M) → (entry_at s.tree k).offer ≡ some o
        → T (is_leaf (entry_at s.tree k).node)

  -- What each waiting leaf offers says how many rows of its span go below, as they stand: they stay so from its evaluation to its split
  pub record Weighed (s : State M) : Type 0 where
    pub offers : (k : ℕ) → k < length s.tree → (o : Offer M) → (entry_at s.tree k).offer ≡ some o
        → Below o (within (entry_at s.tree k).span s.rows)

  -- what an entry offers, nothing perhaps, is what its depth and cost and these rows offer
  abbrev pub IsOffered : Job M → Entry M → List Row → Type 0
  IsOffered j e rows = e.offer ≡ j.offered e.depth e.info.cost rows

  -- So it is of each leaf and the rows of its span, as they stand
  pub record Current (j : Job M) (s : State M) : Type 0 where
    pub offers : (k : ℕ) → k < length s.tree → T (is_leaf (entry_at s.tree k).node) → IsOffered j (entry_at s.tree k) (within (entry_at s.tree k).span s.rows)

  -- the property of what an entry offers is in range
  abbrev pub OfferInRange : Option (Offer M) → Type 0
  OfferInRange none = Unit {0}
  OfferInRange (some o) = T (ltb o.prop props_per_row)

  -- the fields of one entry are in range
  pub record EntryFits (e : Entry M) : Type 0 where
    pub node_fits : FieldsFit e.node e.info.pred
    pub pred_fits : T (ltb e.info.pred toks_per_row)
    pub offer_fits : OfferInRange e.offer

  -- place p lies in the span of a leaf
  abbrev pub Covered : List (Entry M) → ℕ → Type 0
  Covered tree p = (k : ℕ) × (k < length tree) × T (is_leaf (entry_at tree k).node) × ((entry_at tree k).span.first ≤ p) × (p < (entry_at tree k).span.end)

  -- the span of entry c lies within that of entry a
  abbrev pub Nested : List (Entry M) → ℕ → ℕ → Type 0
  Nested tree a c = ((entry_at tree a).span.first ≤ (entry_at tree c).span.first) × ((entry_at tree c).span.end ≤ (entry_at tree a).span.end)

  -- What growth keeps besides: fields in range, costs of one unit at most (`Small n t`: the total t is at most n units in size), a parent for each node
  -- but the first, every place in the span of a leaf, spans within the parent's, and depths one more than the parent's
  pub record Healthy (Small : ℕ → M.Total → Type 0) (seeds : ℕ → Bool) (given : List Row) (s : State M) : Type 0 where
    pub entries : (k : ℕ) → k < length s.tree → EntryFits (entry_at s.tree k)
    pub costs : (k : ℕ) → k < length s.tree → seeds k ≡ false → Small 1 (M.total (entry_at s.tree k).info.cost)
    pub parents : (k : ℕ) → 0 < k → k < length s.tree → (a : ℕ) × Child (tree_nodes s.tree) a k
    pub counted : length s.rows ≡ length given
    pub covered : (p : ℕ) → p < length s.rows → Covered s.tree p
    pub nested : (a c : ℕ) → Child (tree_nodes s.tree) a c → seeds a ≡ false → Nested s.tree a c
    pub own_below : (a c : ℕ) → Child (tree_nodes s.tree) a c → seeds a ≡ false → seeds c ≡ false
    pub deep : Deep (tree_nodes s.tree) (λ (k : ℕ). (entry_at s.tree k).depth)

  -- an entry's span does not run backwards, and Q holds of its cost
  abbrev pub Fine : (M.Cost → Type 0) → Entry M → Type 0
  Fine Q e = (e.span.first ≤ e.span.end) × Q e.info.cost

  -- a state of n rows at most, whose entries are so
  pub record Sized (Q : M.Cost → Type 0) (n : ℕ) (s : State M) : Type 0 where
    pub rows : length s.rows ≤ n
    pub entries : Each (Fine Q) s.tree
