-- Demand 3 (document 00, with document 01's "Demand 3's words"; document 02, d), said of the operations' answers and lent lists. Assumes nothing.
use Rattle.std.specs.Prelude.{◌≡◌, ◌⊎◌, ℕ, suc, ◌+◌, ◌≤◌, ◌<◌, Bool, false, cond, List, [], map, length, get_or, set, ℤ, pos, T, eqb}
use Rattle.std.proofs.Math.Option.{none}
use Rattle.model.specs.Lists.{count_if, keep}
use Rattle.model.specs.Meter.{Meter}
use Rattle.model.specs.Settings.{Settings, with_limit}
use Rattle.model.specs.Rows.{Row, tok_of, res_of, Span, no_span, within}
use Rattle.model.specs.Mode.{mode, zero_token}
use Rattle.model.specs.Tree.{split, leaf, is_leaf, Info, Record, blank_record, fault_of}
use Rattle.model.specs.Grow.{grown_bits}
use Rattle.model.specs.Profile.{Profile}
use Rattle.model.specs.Lent.{record_in, stored_node, stored, Lent, rows_in, uses_modes, tree_in}
use Rattle.model.specs.Operations.{Outcome, refused, accepted, Tree, Found, learn, deepen, lookup}

-- ---- rows
-- "each as often": every test passes equally often
abbrev pub Same {ℓ} : {A : Type ℓ} → List A → List A → Type ℓ
Same {A = A} xs ys = (p : A → Bool) → count_if p xs ≡ count_if p ys

-- what a row is matched by: where residuals and modal offsets are in use all but the zero-predictor token, else all
abbrev pub key : Bool → Row → Row
key uses r = record { props = r.props; toks = cond uses (set r.toks 0 0) r.toks; res = r.res }

abbrev pub SameRows : Bool → List Row → List Row → Type 0
SameRows uses xs ys = Same (map (key uses) xs) (map (key uses) ys)

abbrev pub no_row : Row
no_row = record { props = []; toks = []; res = pos 0 }

-- the row at a place
abbrev pub row_at : {M : Meter} → Lent M → ℕ → Row
row_at x i = get_or (rows_in x) i no_row

-- a lookup's outcome is leaf k
abbrev pub reaches : Outcome Found → ℕ → Bool
reaches (refused r) k = false
reaches (accepted f) k = eqb f.leaf k

module _ {M : Meter} where
  -- ---- of an answer and its lists
  abbrev pub span_at : Lent M → ℕ → Span
  span_at x k = get_or x.spans k no_span

  -- what entry k of the node list reads
  abbrev pub record_at : Lent M → ℕ → Record M
  record_at x k = record_in (get_or x.nodes k (stored blank_record))

  -- node k of the answer's tree is a leaf
  abbrev pub IsLeafOf : Tree M → Lent M → ℕ → Type 0
  IsLeafOf a x k = (k < a.nodes) × T (is_leaf (record_at x k).node)

  -- ---- (i) limits k and k + 1: answer a with lists x, answer b with lists y, alike in everything but this
  pub record OneMore (uses : Bool) (a : Tree M) (x : Lent M) (b : Tree M) (y : Lent M) : Type 0 where
    -- one leaf became a split; it keeps its span, its depth and what stands beside it
    pub number : ℕ
    pub prop : ℕ
    pub val : ℤ
    pub was_leaf : IsLeafOf a x number
    -- its two new leaves stand right behind the first answer's nodes, one deeper, with their spans, which share the leaf's
    pub gt : Info M
    pub le : Info M
    pub middle : ℕ
    pub room : (suc a.nodes < length x.nodes) × (suc a.nodes < length x.spans)
    pub nodes : y.nodes ≡ set (set (set x.nodes number
        (stored_node (split prop val a.nodes (suc a.nodes)) (record_at x number).info (record_at x number).depth))
        a.nodes (stored_node leaf gt (suc (record_at x number).depth))) (suc a.nodes) (stored_node leaf le (suc (record_at x number).depth))
    pub spans : y.spans ≡ set (set x.spans a.nodes (record { first = (span_at x number).first; end = middle }))
        (suc a.nodes) (record { first = middle; end = (span_at x number).end })
    pub between : ((span_at x number).first ≤ middle) × (middle ≤ (span_at x number).end)
    -- the node count is 2 more, the leaf count 1 more
    pub node_count : b.nodes ≡ a.nodes + 2
    pub leaf_count_lem : b.leaves ≡ a.leaves + 1
    -- the estimated bits have the growth term added; the flat bits are alike
    pub bits : b.bits ≡ grown_bits M a.bits gt.cost le.cost (record_at x number).info.cost
    pub flat : b.flat ≡ a.flat
    -- the places of that leaf's span hold the same rows, save order and zero-predictor token
    pub same_rows : SameRows uses (within (span_at x number) (rows_in y)) (within (span_at x number) (rows_in x))
    -- every other place holds the same row
    pub elsewhere : (i : ℕ) → (i < (span_at x number).first) ⊎ ((span_at x number).end ≤ i) → row_at y i ≡ row_at x i
    pub lengths : (length y.props ≡ length x.props) × (length y.toks ≡ length x.toks) × (length y.res ≡ length x.res)
    -- queue and count space are alike
    pub queue : y.queue ≡ x.queue
    pub counts : y.counts ≡ x.counts

  -- ---- (ii) spans
  -- each leaf's span holds exactly the rows handed in whose lookup in the answer's tree reaches it, each as often
  pub record SpansHold (uses : Bool) (handed : List Row) (a : Tree M) (x : Lent M) : Type 0 where
    pub bounds : (k : ℕ) → IsLeafOf a x k → ((span_at x k).first ≤ (span_at x k).end) × ((span_at x k).end ≤ length (rows_in x))
    pub each : (k : ℕ) → IsLeafOf a x k
        → SameRows uses (within (span_at x k) (rows_in x)) (keep (λ (r : Row). reaches (lookup x.nodes a.nodes r.props) k) handed)

  -- ---- (iii) tokens
  -- place i lies in the span of leaf k, and its zero-predictor token is the one worked afresh from its residual and the span's mode
  pub record FreshAt (a : Tree M) (x : Lent M) (i : ℕ) : Type 0 where
    pub leaf_number : ℕ
    pub is_leaf : IsLeafOf a x leaf_number
    pub inside : ((span_at x leaf_number).first ≤ i) × (i < (span_at x leaf_number).end)
    pub token : tok_of (row_at x i) 0 ≡ zero_token (mode (res_of (within (span_at x leaf_number) (rows_in x)))) (row_at x i).res

  -- every row's
  abbrev pub TokensFresh : Tree M → Lent M → Type 0
  TokensFresh a x = (i : ℕ) → i < length (rows_in x) → FreshAt a x i

-- ---- demand 3, whole
module _ (P : Profile) where
  -- price 0
  abbrev pub Unpruned : Settings P.meter → Type 0
  Unpruned t = P.meter.less P.meter.nought t.price ≡ false

  -- what holds of an accepted learning or deepening: x are the lists handed in, a the answer, y the lists at exit
  pub record Kept (t : Settings P.meter) (x : Lent P.meter) (a : Tree P.meter) (y : Lent P.meter) : Type 0 where
    pub sound : fault_of (tree_in a.nodes y.nodes) ≡ none
    pub rows : length (rows_in y) ≡ length (rows_in x)
    pub spans : SpansHold (uses_modes t x) (rows_in x) a y
    -- after unpruned learning, and after pruned learning with settling
    pub tokens : T (uses_modes t x) → T t.settling ⊎ Unpruned t → TokensFresh a y

  -- of two accepted unpruned runs that differ only in the limit: alike in everything, or in everything but one more split
  abbrev pub OneMoreOrAlike : Settings P.meter → Lent P.meter → Tree P.meter → Lent P.meter → Tree P.meter → Lent P.meter → Type 0
  OneMoreOrAlike t x a y b z = ((b ≡ a) × (z ≡ y)) ⊎ OneMore (uses_modes t x) a y b z

  pub record Demand3 : Type 0 where
    pub learn_more : (t : Settings P.meter) (logs : List P.meter.Cost) (x y z : Lent P.meter) (k : ℕ) (a b : Tree P.meter) → Unpruned t
        → learn P (with_limit k t) logs x ≡ record { outcome = accepted a; lent = y }
        → learn P (with_limit (suc k) t) logs x ≡ record { outcome = accepted b; lent = z }
        → OneMoreOrAlike t x a y b z
    pub learn_kept : (t : Settings P.meter) (logs : List P.meter.Cost) (x y : Lent P.meter) (a : Tree P.meter)
        → learn P t logs x ≡ record { outcome = accepted a; lent = y }
        → Kept t x a y
    pub deepen_more : (t : Settings P.meter) (logs : List P.meter.Cost) (count : ℕ) (x y z : Lent P.meter) (k : ℕ) (a b : Tree P.meter) → Unpruned t
        → deepen P (with_limit k t) logs count x ≡ record { outcome = accepted a; lent = y }
        → deepen P (with_limit (suc k) t) logs count x ≡ record { outcome = accepted b; lent = z }
        → OneMoreOrAlike t x a y b z
    pub deepen_kept : (t : Settings P.meter) (logs : List P.meter.Cost) (count : ℕ) (x y : Lent P.meter) (a : Tree P.meter)
        → deepen P t logs count x ≡ record { outcome = accepted a; lent = y }
        → Kept t x a y
