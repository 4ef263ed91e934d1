-- Which properties were planned, as the code keeps it for the twins. Assumes nothing.
use mathlib.Core.Path.{◌≡◌, refl, sym, ap, ◌∙◌, subst}
use mathlib.Core.Bool.{Bool, true, false, not, ◌&&◌}
use mathlib.Core.List.{List, []}
use mathlib.Core.Option.{Option, none, some}
use Prim.Native.Nat.{ℕ, ◌+◌, ◌≤◌, ◌<◌}
use native.Mathlib.Omega.{arith}
use native.Mathlib.Decide.{dec_lt}
use borrow.Author.Tests.{lt-ltb, le-ltb}
use lib.Dec.{ltb}
use lib.IntN.{ℤ}
use lib.ListN.{length, get_or, set, replicate, get_or-replicate}
use lib.Seq.{get_or-set_same, get_or-set_other}
use Rattle.model.specs.Lists.{is_empty}
use Rattle.model.specs.Single.{singles}
use Rattle.model.specs.Settings.{Settings}
use Rattle.model.specs.Rows.{Row}
use Rattle.model.specs.Candidates.{candidates_of}
use Rattle.model.specs.Evaluate.{twin, plan_of, repeats, is_repeated}
use Rattle.candidates.specs.Column.{column}
use Rattle.evaluate.specs.Order.{order_at, repeats_in}
use Rattle.evaluate.specs.Evaluated.{span_rows}
use Rattle.evaluate.proofs.Orders.{place_of, order_below, order-once, twin-before}
use Rattle.evaluate.proofs.SpanColumns.{span-column, span_equal}

module _ (ps : List ℤ) (first end most : ℕ) where
  -- the candidates of property q
  abbrev pub cands : ℕ → List ℤ
  cands q = candidates_of most (column ps q first end)

  -- of the first k properties, those that are no repetition of another are marked if they have candidates
  abbrev pub PlannedTo : ℕ → List Bool → Type 0
  PlannedTo k planned = (j : ℕ) → j < 24 → twin (order_at j) ≡ none → get_or planned (order_at j) false ≡ (ltb j k && not (is_empty (cands (order_at j))))

  pub planned-none : PlannedTo 0 (replicate 24 false)
  planned-none j h e = get_or-replicate 24 (order_at j) false false (order_below j h)
      ∙ sym (ap (λ (b : Bool). b && not (is_empty (cands (order_at j)))) (le-ltb j 0 (omega arith)))

  module _ (k : ℕ) (planned next : List Bool) (before : PlannedTo k planned) (inside : k < 24)
      (other : (j : ℕ) → j < 24 → (j ≡ k → ⊥) → get_or next (order_at j) false ≡ get_or planned (order_at j) false)
      (own : twin (order_at k) ≡ none → get_or next (order_at k) false ≡ not (is_empty (cands (order_at k)))) where
    planned-more : PlannedTo (k + 1) next
    planned-more j h e = elim (dec_lt j k) [
      | yes l ↦ (other j h (λ q. omega arith) ∙ before j h e
          ∙ ap (λ (b : Bool). b && not (is_empty (cands (order_at j)))) (lt-ltb j k l ∙ sym (lt-ltb j (k + 1) (omega arith))))
      | no l ↦ elim (dec_lt k j) [
        | yes m ↦ (other j h (λ q. omega arith) ∙ before j h e
            ∙ ap (λ (b : Bool). b && not (is_empty (cands (order_at j)))) (le-ltb j k (omega arith) ∙ sym (le-ltb j (k + 1) (omega arith))))
        | no m ↦ same (omega arith)
      ]
    ]
      where
        same : j ≡ k → get_or next (order_at j) false ≡ (ltb j (k + 1) && not (is_empty (cands (order_at j))))
        same q =
            ap (λ (i : ℕ). get_or next (order_at i) false) q ∙ own (ap (λ (i : ℕ). twin (order_at i)) (sym q) ∙ e)
            ∙ ap (λ (i : ℕ). not (is_empty (cands (order_at i)))) (sym q)
            ∙ sym (ap (λ (b : Bool). b && not (is_empty (cands (order_at j)))) (lt-ltb j (k + 1) (omega arith)))

  module _ (k : ℕ) (planned : List Bool) (before : PlannedTo k planned) (inside : k < 24) where
    -- it repeats its twin
    pub planned-skipped : repeats_in planned ps first end (order_at k) (twin (order_at k)) ≡ true → PlannedTo (k + 1) planned
    planned-skipped r =
        planned-more k planned planned before inside (λ j h n. refl)
        (λ e. let no : false ≡ true = ap (repeats_in planned ps first end (order_at k)) (sym e) ∙ r in let z : ◌≡◌ {A = ℕ} 0 1 = cc in absurd (omega arith))

    -- it has no candidate
    pub planned-passed : cands (order_at k) ≡ [] → PlannedTo (k + 1) planned
    planned-passed c =
        planned-more k planned planned before inside (λ j h n. refl)
        (λ e.
        before k inside e ∙ ap (λ (b : Bool). b && not (is_empty (cands (order_at k)))) (le-ltb k k (omega arith))
        ∙ sym (ap (λ (l : List ℤ). not (is_empty l)) c))

    -- it has some
    pub planned-marked : is_empty (cands (order_at k)) ≡ false → length planned ≡ 24 → PlannedTo (k + 1) (set planned (order_at k) true)
    planned-marked c long =
        planned-more k planned (set planned (order_at k) true) before inside
        (λ j h n. get_or-set_other planned (order_at k) (order_at j) true false (λ e. n (order-once j k h inside e)))
        (λ e. get_or-set_same planned (order_at k) true false (omega (arith, order_below k inside)) ∙ sym (ap not c))

    module _ (t : Settings singles) (same : t.candidates ≡ most) (tok : List ℕ) (rows : ℕ) (rs : List ℤ) (order : first ≤ end) (fits : end ≤ rows) where
      abbrev mine : List Row
      mine = span_rows first end ps tok rows rs

      pub plan-is : (q : ℕ) → q < 24 → plan_of t mine q ≡ cands q
      unfolding plan_of
      plan-is q h = ap (candidates_of t.candidates) (span-column ps tok first end rows rs order fits q h)
          ∙ ap (λ (n : ℕ). candidates_of n (column ps q first end)) same

      pub repeated-is : repeats_in planned ps first end (order_at k) (twin (order_at k)) ≡ is_repeated t mine (order_at k)
      unfolding is_repeated
      repeated-is = go (twin (order_at k)) refl
        where
          go : (o : Option ℕ) → twin (order_at k) ≡ o → repeats_in planned ps first end (order_at k) o ≡ repeats t mine (order_at k) o
          go none e = refl
          go (some a) e =
              let b = twin-before k a inside e in
              let q = order_at k in
              let at : get_or planned a false ≡ not (is_empty (cands a)) =
              ap (λ (i : ℕ). get_or planned i false) (sym b.1) ∙ before (place_of a) (omega (arith, b.0)) (ap twin b.1 ∙ b.2)
              ∙ ap (λ (x : Bool). x && not (is_empty (cands (order_at (place_of a))))) (lt-ltb (place_of a) k b.0)
              ∙ ap (λ (i : ℕ). not (is_empty (cands i))) b.1 in
              let low : a < 24 = subst (λ (i : ℕ). i < 24) b.1 (order_below (place_of a) (omega (arith, b.0))) in
              rw (at, plan-is a low, span_equal ps tok first end rows rs order fits a q low (order_below k inside))
