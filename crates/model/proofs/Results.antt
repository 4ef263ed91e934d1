-- What the promises say of learning's and deepening's results, before they are written into the lent lists. Assumes nothing.
use mathlib.Core.Path.{◌≡◌}
use mathlib.Core.Logic.{◌⊎◌}
use Prim.Native.Nat.{ℕ, suc, ◌+◌, ◌-◌, ◌*◌, ◌≤◌, ◌<◌, max}
use mathlib.Core.Bool.{Bool, false}
use mathlib.Core.List.{List, [], ◌∷◌, ◌++◌}
use mathlib.Core.Option.{none}
use lib.ListN.{length, get_or, set, take}
use lib.IntN.{ℤ}
use lib.Dec.{T, eqb, ltb}
use Rattle.model.specs.Lists.{all, keep}
use Rattle.model.specs.Meter.{Meter}
use Rattle.model.specs.Settings.{max_leaves}
use Rattle.model.specs.Rows.{Row, tok_of, with_zero, res_of, Span, no_span, within}
use Rattle.model.specs.Mode.{mode, zero_token}
use Rattle.model.specs.Tree.{Node, split, leaf, is_leaf, Info, Record, blank_record, nodes_of, leaf_reached, fault_of}
use Rattle.model.specs.Job.{Job, prunes}
use Rattle.model.specs.Grow.{grown_bits}
use Rattle.model.specs.Learn.{Result, learned}
use Rattle.model.specs.Deepen.{deepened}
use Rattle.model.specs.Promise.{SameRows, no_row}
use Rattle.model.specs.Accepting.{JobFits}
use Rattle.model.proofs.Lawful.{Bounds}

-- a row that has tokens
abbrev pub has_tokens : Row → Bool
has_tokens r = ltb 0 (length r.toks)

module _ {M : Meter} where
  abbrev pub record_of_result : Result M → ℕ → Record M
  record_of_result r k = get_or r.records k blank_record

  abbrev pub leaf_record : Info M → ℕ → Record M
  leaf_record i depth = record { node = leaf; info = i; depth = depth }

  abbrev pub span_of_result : Result M → ℕ → Span
  span_of_result r k = get_or r.spans k no_span

  abbrev pub LeafOfResult : Result M → ℕ → Type 0
  LeafOfResult r k = (k < r.count) × T (is_leaf (record_of_result r k).node)

  -- the nodes of the result's tree
  abbrev pub tree_of_result : Result M → List Node
  tree_of_result r = nodes_of (take r.count r.records)

  pub record ResultKept (uses : Bool) (given : List Row) (most : ℕ) (r : Result M) : Type 0 where
    pub counted : length r.rows ≡ length given
    -- a test that does not look at the zero token passes every row if it passes those given
    pub formed : (p : Row → Bool) → ((z : ℕ) (w : Row) → p (with_zero z w) ≡ p w) → T (all p given) → T (all p r.rows)
    pub paired : length r.spans ≡ length r.records
    pub inside : r.count ≤ length r.records
    pub few : length r.records ≤ most
    pub sound : fault_of (take r.count r.records) ≡ none
    pub bounds : (k : ℕ) → LeafOfResult r k → ((span_of_result r k).first ≤ (span_of_result r k).end) × ((span_of_result r k).end ≤ length r.rows)
    pub holds : (k : ℕ) → LeafOfResult r k
        → SameRows uses (within (span_of_result r k) r.rows) (keep (λ (w : Row). eqb (leaf_reached (tree_of_result r) w.props) k) given)

  -- place i lies in the span of a leaf, and its zero token is worked afresh from its residual and the span's mode
  pub record ResultFreshAt (r : Result M) (i : ℕ) : Type 0 where
    pub leaf_number : ℕ
    pub is_leaf : LeafOfResult r leaf_number
    pub inside : ((span_of_result r leaf_number).first ≤ i) × (i < (span_of_result r leaf_number).end)
    pub token : tok_of (get_or r.rows i no_row) 0 ≡ zero_token (mode (res_of (within (span_of_result r leaf_number) r.rows))) (get_or r.rows i no_row).res

  abbrev pub ResultFresh : Result M → Type 0
  ResultFresh r = (i : ℕ) → i < length r.rows → ResultFreshAt r i

  -- b is a with one leaf split, and nothing else differs
  pub record ResultOneMore (uses : Bool) (a b : Result M) : Type 0 where
    pub number : ℕ
    pub prop : ℕ
    pub val : ℤ
    pub gt : Info M
    pub le : Info M
    pub middle : ℕ
    pub was_leaf : LeafOfResult a number
    pub whole : (a.count ≡ length a.records) × (a.count ≡ length a.spans)
    pub records : b.records ≡ set a.records number (record { node = split prop val a.count (suc a.count); info = (record_of_result a number).info; depth = (record_of_result a number).depth })
        ++ (leaf_record gt (suc (record_of_result a number).depth) ∷ leaf_record le (suc (record_of_result a number).depth) ∷ [])
    pub spans : b.spans ≡ a.spans ++ (record { first = (span_of_result a number).first; end = middle } ∷ record { first = middle; end = (span_of_result a number).end } ∷ [])
    pub between : ((span_of_result a number).first ≤ middle) × (middle ≤ (span_of_result a number).end)
    pub count : b.count ≡ a.count + 2
    pub leaves : b.leaves ≡ a.leaves + 1
    pub bits : b.bits ≡ grown_bits M a.bits gt.cost le.cost (record_of_result a number).info.cost
    pub flat : b.flat ≡ a.flat
    pub same_rows : SameRows uses (within (span_of_result a number) b.rows) (within (span_of_result a number) a.rows)
    pub elsewhere : (i : ℕ) → (i < (span_of_result a number).first) ⊎ ((span_of_result a number).end ≤ i) → get_or b.rows i no_row ≡ get_or a.rows i no_row

  -- what is shown of every job whose evaluation fits
  pub record ResultLaws (B : Bounds M) : Type 0 where
    pub learned_kept : (j : Job M) (limit : ℕ) (rows : List Row) → JobFits B.Small j (length rows) → 1 ≤ limit → limit ≤ max_leaves → ResultKept j.uses rows (2 * limit - 1) (learned j limit rows)
    pub learned_fresh : (j : Job M) (limit : ℕ) (rows : List Row) → JobFits B.Small j (length rows) → 1 ≤ limit → limit ≤ max_leaves → T (all has_tokens rows)
        → T j.uses → T j.settling ⊎ (prunes j ≡ false) → ResultFresh (learned j limit rows)
    pub learned_more : (j : Job M) (k : ℕ) (rows : List Row) → prunes j ≡ false → 1 ≤ k
        → (learned j (suc k) rows ≡ learned j k rows) ⊎ ResultOneMore j.uses (learned j k rows) (learned j (suc k) rows)
    pub deepened_kept : (j : Job M) (limit : ℕ) (seed : List (Record M)) (rows : List Row) → JobFits B.Small j (length rows) → fault_of seed ≡ none → limit ≤ max_leaves
        → ResultKept j.uses rows (max (2 * limit - 1) (length seed)) (deepened j limit seed rows)
    pub deepened_fresh : (j : Job M) (limit : ℕ) (seed : List (Record M)) (rows : List Row) → JobFits B.Small j (length rows) → fault_of seed ≡ none → limit ≤ max_leaves → T (all has_tokens rows)
        → T j.uses → T j.settling ⊎ (prunes j ≡ false) → ResultFresh (deepened j limit seed rows)
    pub deepened_more : (j : Job M) (k : ℕ) (seed : List (Record M)) (rows : List Row) → JobFits B.Small j (length rows) → prunes j ≡ false → fault_of seed ≡ none
        → (deepened j (suc k) seed rows ≡ deepened j k seed rows) ⊎ ResultOneMore j.uses (deepened j k seed rows) (deepened j (suc k) seed rows)
