-- How three flat lists hold the queue of waiting leaves: four words (node, property, depth, how many rows go below), a threshold and a gain a leaf, in the order
-- of the nodes' numbers.
-- The queue is a function of the tree: each leaf that offers a split waits (document 01, "Growth"). Assumes nothing.
use Rattle.std.specs.Prelude.{ℕ, suc, ◌+◌, ◌*◌, ◌≤◌, ◌<◌, ◌≡◌, Bool, List, [], ◌∷◌, ◌++◌, length, get_or, set, take, drop, ℤ, Float}
use Rattle.std.proofs.Math.Option.{Option, none, some}
use Rattle.folds.specs.First.{first_place}
use Rattle.model.specs.Meter.{Meter}
use Rattle.model.specs.Single.{singles}
use Rattle.model.specs.Rows.{span_size}
use Rattle.model.specs.Job.{Offer, Claim, larger_first}
use Rattle.model.specs.Grow.{Entry}
use Rattle.model.specs.Lent.{Waiting}
use Rattle.layout.specs.Records.{span_is, no_span_record}
use Rattle.layout.specs.declared.Span.{Span}

-- one part of each entry, end to end
abbrev pub laid : {E A : Type 0} → (E → List A) → List E → List A
laid part [] = []
laid part (e ∷ es) = part e ++ laid part es

abbrev pub words_per_leaf : ℕ
words_per_leaf = 4

-- the leaf's place in the queue, if it offers a split
abbrev pub waits : {M : Meter} → ℕ → ℕ → Option (Offer M) → List (Waiting M)
waits node depth none = []
waits node depth (some o) = record { node = node; depth = depth; offer = o } ∷ []

-- of the entries i, i + 1, ..
unfoldable pub waiting_from : {M : Meter} → ℕ → List (Entry M) → List (Waiting M)
waiting_from i [] = []
waiting_from i (e ∷ es) = waits i e.depth e.offer ++ waiting_from (suc i) es

-- the waiting leaves of a tree
abbrev pub queue_of : {M : Meter} → List (Entry M) → List (Waiting M)
queue_of tree = waiting_from 0 tree

-- the list without its element at k
abbrev pub without : {A : Type 0} → ℕ → List A → List A
without k l = take k l ++ drop (suc k) l

abbrev pub wait_words : {M : Meter} → Waiting M → List ℕ
wait_words w = w.node ∷ w.offer.prop ∷ w.depth ∷ w.offer.below ∷ []

abbrev pub wait_values : {M : Meter} → Waiting M → List ℤ
wait_values w = w.offer.val ∷ []

abbrev pub wait_gains : {M : Meter} → Waiting M → List M.Cost
wait_gains w = w.offer.gain ∷ []

-- the three lists
pub record QueueListsOf (M : Meter) : Type 0 where
  pub words : List ℕ
  pub values : List ℤ
  pub gains : List M.Cost

abbrev pub QueueLists : Type 0
QueueLists = QueueListsOf singles

abbrev pub queue_lists : List ℕ → List ℤ → List Float → QueueLists
queue_lists words values gains = record { words = words; values = values; gains = gains }

-- the leaves stand at the front of the lists, and what stands behind them is of no use
pub record Queued {M : Meter} (waiting : ℕ) (q : QueueListsOf M) (leaves : List (Waiting M)) : Type 0 where
  pub many : waiting ≡ length leaves
  pub words : take (waiting * words_per_leaf) q.words ≡ laid wait_words leaves
  pub values : take waiting q.values ≡ laid wait_values leaves
  pub gains : take waiting q.gains ≡ laid wait_gains leaves

-- there is room for n leaves
pub record QueueRoom {M : Meter} (n : ℕ) (q : QueueListsOf M) : Type 0 where
  pub words : n * words_per_leaf ≤ length q.words
  pub values : n ≤ length q.values
  pub gains : n ≤ length q.gains

-- as long as before
pub record SameQueue {M : Meter} (q p : QueueListsOf M) : Type 0 where
  pub words : length p.words ≡ length q.words
  pub values : length p.values ≡ length q.values
  pub gains : length p.gains ≡ length q.gains

-- the words with those of the leaf at place k written
abbrev pub put_wait_words : {M : Meter} → ℕ → Waiting M → List ℕ → List ℕ
put_wait_words k w words =
    let at = k * words_per_leaf in
    set (set (set (set words at w.node) (at + 1) w.offer.prop) (at + 2) w.depth) (at + 3) w.offer.below

-- ---- the leaf that is taken next
-- the node of the leaf at place k
abbrev pub leaf_at : {M : Meter} → QueueListsOf M → ℕ → ℕ
leaf_at q k = get_or q.words (k * words_per_leaf) 0

-- what the order of waiting leaves looks at, of the leaf at place k: its gain, and the rows of its node's span
abbrev pub claim_at : {M : Meter} → QueueListsOf M → List Span → ℕ → Claim M
claim_at {M} q spans k = record { gain = get_or q.gains k M.spare; rows = span_size (span_is (get_or spans (leaf_at q k) no_span_record)) }

-- the leaf at place k is taken before the one at the lower place `best`
abbrev pub goes_before : {M : Meter} → QueueListsOf M → List Span → ℕ → ℕ → Bool
goes_before {M} q spans k best = larger_first M (claim_at q spans k) (claim_at q spans best)

-- of the first n leaves the first that none goes before
abbrev pub foremost : {M : Meter} → QueueListsOf M → List Span → ℕ → ℕ
foremost q spans = first_place (goes_before q spans)

-- each of the first n leaves' nodes has a span
abbrev pub HaveSpans : {M : Meter} → ℕ → QueueListsOf M → List Span → Type 0
HaveSpans n q spans = (k : ℕ) → k < n → leaf_at q k < length spans
