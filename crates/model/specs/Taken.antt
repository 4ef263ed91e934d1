-- Which waiting leaf growth takes, in the words of request e) of 02: the greatest gain; at equal gains "the leaf with more rows goes first, and only then the
-- lower number". Assumes nothing.
use Rattle.std.specs.Prelude.{◌≡◌, ◌≢◌, ℕ, suc, ◌≤◌, ◌<◌, true, false, List, length, get_or}
use Rattle.std.proofs.Math.Option.{Option, none, some}
use Rattle.model.specs.Meter.{Meter}
use Rattle.model.specs.Settings.{Settings, with_limit}
use Rattle.model.specs.Rows.{within, span_size}
use Rattle.model.specs.Job.{Offer, Claim, Job}
use Rattle.model.specs.Grow.{Entry, State, no_entry, claim, split_at}
use Rattle.model.specs.Profile.{Profile, job_of}
use Rattle.model.specs.Lent.{Lent, rows_in, uses_modes}
use Rattle.model.specs.Operations.{accepted, Tree, learn, deepen}
use Rattle.model.specs.Promise.{span_at, record_at, IsLeafOf, OneMore, Unpruned}

module _ {M : Meter} where
  -- neither gain is less: they are equal, since gains are finite
  abbrev pub EqualGains : Claim M → Claim M → Type 0
  EqualGains c d = (M.less c.gain d.gain ≡ false) × (M.less d.gain c.gain ≡ false)

  -- leaf k, which claims c, goes before leaf m, which claims d
  pub data GoesBefore (k : ℕ) (c : Claim M) (m : ℕ) (d : Claim M) : Type 0 where
    by_gain : M.less d.gain c.gain ≡ true → GoesBefore k c m d
    by_rows : EqualGains c d → d.rows < c.rows → GoesBefore k c m d
    by_number : EqualGains c d → c.rows ≡ d.rows → k < m → GoesBefore k c m d

  -- leaf k of the tree waits with offer o, and goes before every other leaf that waits
  pub record Foremost (tree : List (Entry M)) (k : ℕ) (o : Offer M) : Type 0 where
    pub inside : k < length tree
    pub waiting : (get_or tree k no_entry).offer ≡ some o
    pub first : (m : ℕ) → m < length tree → m ≢ k → (p : Offer M) → (get_or tree m no_entry).offer ≡ some p
        → GoesBefore k (claim tree k o) m (claim tree m p)

  -- no leaf waits and nothing changes, or the foremost is split
  pub data Takes (j : Job M) (s t : State M) : Type 0 where
    none_waits : ((m : ℕ) → m < length s.tree → (get_or s.tree m no_entry).offer ≡ none) → t ≡ s → Takes j s t
    splits : (k : ℕ) (o : Offer M) → Foremost s.tree k o → t ≡ split_at j s k o → Takes j s t

-- ---- the same of runs: limits k and k + 1 differ by the split that this rule picks
module _ {M : Meter} where
  -- what leaf k of an answer offers, with the lists y at exit: of its rows as they stand, its depth and its cost
  abbrev pub offer_at : Job M → Lent M → ℕ → Option (Offer M)
  offer_at j y k = j.offered (record_at y k).depth (record_at y k).info.cost (within (span_at y k) (rows_in y))

  -- what it claims by an offer
  abbrev pub claim_at : Lent M → ℕ → Offer M → Claim M
  claim_at y k o = record { gain = o.gain; rows = span_size (span_at y k) }

  -- leaf k of the answer a offers o, and goes before every other leaf that offers a split
  pub record ForemostAt (j : Job M) (a : Tree M) (y : Lent M) (k : ℕ) (o : Offer M) : Type 0 where
    pub offers : offer_at j y k ≡ some o
    pub first : (m : ℕ) → IsLeafOf a y m → m ≢ k → (p : Offer M) → offer_at j y m ≡ some p → GoesBefore k (claim_at y k o) m (claim_at y m p)

  -- Limit k gave answer a with lists y, and limit k + 1 answer b with lists z: all is alike, and no leaf offers a split if a has no more than k leaves; or the
  -- leaf that goes before every other one is split as it offers
  pub data NextTakes (j : Job M) (k : ℕ) (a : Tree M) (y : Lent M) (b : Tree M) (z : Lent M) : Type 0 where
    alike : b ≡ a → z ≡ y → (a.leaves ≤ k → (m : ℕ) → IsLeafOf a y m → offer_at j y m ≡ none) → NextTakes j k a y b z
    one_more : (one : OneMore j.uses a y b z) (o : Offer M) → ForemostAt j a y one.number o → o.prop ≡ one.prop → o.val ≡ one.val → NextTakes j k a y b z

-- of every two accepted unpruned runs that differ in the limit alone
pub record TakesForemost (P : Profile) : Type 0 where
  pub learn_takes : (t : Settings P.meter) (logs : List P.meter.Cost) (x y z : Lent P.meter) (k : ℕ) (a b : Tree P.meter) → Unpruned P t
      → learn P (with_limit k t) logs x ≡ record { outcome = accepted a; lent = y }
      → learn P (with_limit (suc k) t) logs x ≡ record { outcome = accepted b; lent = z }
      → NextTakes (job_of P t logs (uses_modes t x)) k a y b z
  pub deepen_takes : (t : Settings P.meter) (logs : List P.meter.Cost) (count : ℕ) (x y z : Lent P.meter) (k : ℕ) (a b : Tree P.meter) → Unpruned P t
      → deepen P (with_limit k t) logs count x ≡ record { outcome = accepted a; lent = y }
      → deepen P (with_limit (suc k) t) logs count x ≡ record { outcome = accepted b; lent = z }
      → NextTakes (job_of P t logs (uses_modes t x)) k a y b z
