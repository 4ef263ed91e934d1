-- Rows are only moved, and only their zero tokens change: a test that does not look at the zero token, and that all rows handed in pass, all rows pass
-- ever after. Assumes nothing.
use mathlib.Core.Path.{◌≡◌, refl, sym, ap, ◌∙◌}
use Prim.Native.Nat.{ℕ, zero, suc, ◌+◌, ◌-◌, ◌≤◌}
use native.Mathlib.Omega.{arith}
use mathlib.Core.Bool.{Bool, true, false, cond, not, ◌&&◌}
use mathlib.Core.List.{List, [], ◌∷◌, ◌++◌}
use lib.ListN.{get_or, take, drop, take-append-drop}
use lib.IntN.{ℤ}
use lib.Dec.{T}
use lib.Ieee.Fits.{and_r}
use Rattle.model.specs.Lists.{count_if, all}
use Rattle.model.specs.Meter.{Meter}
use Rattle.model.specs.Rows.{Row, with_zero, Span, within, is_above}
use Rattle.model.specs.Mode.{zero_token, span_mode, rebased, fresh}
use Rattle.model.specs.Partition.{above_rows, other_rows}
use Rattle.model.specs.Tree.{Node, split, leaf, is_leaf, Record, nodes_of}
use Rattle.model.specs.Job.{Offer, Job}
use Rattle.model.specs.Grow.{Entry, State, no_entry, gt_rows, le_rows, split_rows, split_at, steps}
use Rattle.model.specs.Settle.{settled}
use Rattle.model.specs.Learn.{result_of, pruned, settled_state, finished, root_state, learned}
use Rattle.model.specs.Deepen.{rows_at, with_seed_node, seed_from, seed_state, deepened}
use Rattle.model.proofs.Counting.{count_append, count-keep, count-split}
use Rattle.model.proofs.Parts.{count-above, count-others}
use Rattle.model.proofs.Steps.{step_is}

-- ---- all pass, said by counting those that fail
count_failing : (p : Row → Bool) (xs : List Row) → T (all p xs) → count_if (λ (r : Row). not (p r)) xs ≡ 0
count_failing p [] t = refl
count_failing p (x ∷ xs) t = search (arith, count_failing p xs (and_r (p x) (all p xs) t))

none_failing : (p : Row → Bool) (xs : List Row) → count_if (λ (r : Row). not (p r)) xs ≡ 0 → T (all p xs)
none_failing p [] e = tt
none_failing p (x ∷ xs) e = go (p x) e (none_failing p xs)
  where
    go : (b : Bool) → cond (not b) 1 0 + count_if (λ (r : Row). not (p r)) xs ≡ 0 → (count_if (λ (r : Row). not (p r)) xs ≡ 0 → T (all p xs)) → T (b && all p xs)
    go true e ih = ih (omega arith)
    go false e ih = absurd (omega arith)

-- a part of a list has no more that pass
count-part : (q : Row → Bool) (n : ℕ) (xs : List Row) → (count_if q (take n xs) ≤ count_if q xs) × (count_if q (drop n xs) ≤ count_if q xs)
count-part q n xs = let e = sym (ap (count_if q) (take-append-drop n xs)) ∙ count_append q (take n xs) (drop n xs) in (omega arith, omega arith)

count-within : (q : Row → Bool) (s : Span) (xs : List Row) → count_if q (within s xs) ≤ count_if q xs
count-within q s xs = let a = count-part q s.end xs in let b = count-part q s.first (take s.end xs) in omega (arith, a.0, b.1)

-- those that pass another test too are no more
count-both : (f q : Row → Bool) (xs : List Row) → count_if (λ (r : Row). f r && q r) xs ≤ count_if q xs
count-both f q xs = let e = count-split f q xs in omega arith

-- ---- a test that does not look at the zero token
module _ (q : Row → Bool) (blind : (z : ℕ) (r : Row) → q (with_zero z r) ≡ q r) where
  count-rebased : (m : ℤ) (xs : List Row) → count_if q (rebased m xs) ≡ count_if q xs
  unfolding rebased
  count-rebased m [] = refl
  count-rebased m (x ∷ xs) = rw (blind (zero_token m x.res) x) (ap (λ (n : ℕ). cond (q x) 1 0 + n) (count-rebased m xs))

  count-fresh : (uses : Bool) (xs : List Row) → count_if q (fresh uses xs) ≡ count_if q xs
  unfolding fresh
  count-fresh false xs = refl
  count-fresh true xs = count-rebased (span_mode true xs) xs

  module _ {M : Meter} (j : Job M) where
    -- a step
    count_split_rows : (rows : List Row) (e : Entry M) (o : Offer M) → count_if q rows ≡ 0 → count_if q (split_rows j rows e o) ≡ 0
    unfolding split_rows gt_rows le_rows
    count_split_rows rows e o h =
        let above = is_above o.prop o.val in
        let mine = within e.span rows in
        let w = count-within q e.span rows in
        let gt = count-fresh j.uses (above_rows above mine) ∙ count-above above q mine in
        let le = count-fresh j.uses (other_rows above mine) ∙ count-others above q mine in
        let a = count-both above q mine in
        let b = count-both (λ (r : Row). not (above r)) q mine in
        let f = take e.span.first rows in
        let g = fresh j.uses (above_rows above mine) in
        let l = fresh j.uses (other_rows above mine) in
        let d = drop e.span.end rows in
        let x = count_append q (f ++ g ++ l) d in
        let y = count_append q (f ++ g) l in
        let z = count_append q f g in
        omega (arith, count-part q e.span.first rows, count-part q e.span.end rows)

    count_split_at : (s : State M) (i : ℕ) (o : Offer M) → count_if q s.rows ≡ 0 → count_if q (split_at j s i o).rows ≡ 0
    unfolding split_at
    count_split_at s i o h = count_split_rows s.rows (get_or s.tree i no_entry) o h

    count-steps : (n : ℕ) (s : State M) → count_if q s.rows ≡ 0 → count_if q (steps j n s).rows ≡ 0
    unfolding steps
    count-steps zero s h = h
    count-steps (suc n) s h = search (arith, step_is, count_split_at, count-steps n s h)

    -- the seed's rows
    count_rows_at : (nodes : List Node) (i : ℕ) (rows : List Row) → count_if q (rows_at nodes i rows) ≤ count_if q rows
    unfolding rows_at
    count_rows_at nodes i rows = search (arith, count-keep, count-both)

    count-seed : (nodes : List Node) (rows : List Row) (i : ℕ) (rs : List (Record M)) (s : State M) → count_if q rows ≡ 0 → count_if q s.rows ≡ 0 → count_if q (seed_from j nodes rows i rs s).rows ≡ 0
    unfolding seed_from
    count-seed nodes rows i [] s h k = k
    count-seed nodes rows i (r ∷ rs) s h k =
        count-seed nodes rows (suc i) rs (with_seed_node j r.node r.info r.depth (rows_at nodes i rows) s) h (go r.node)
      where
        go : (n : Node) → count_if q (with_seed_node j n r.info r.depth (rows_at nodes i rows) s).rows ≡ 0
        go (split p v g l) = k
        go leaf = count_append q s.rows (fresh j.uses (rows_at nodes i rows)) ∙ (let f = count-fresh j.uses (rows_at nodes i rows) in omega (arith, count_rows_at nodes i rows))

    -- settling
    count-settled : (es : List (Entry M)) (rows : List Row) → count_if q rows ≡ 0 → count_if q (settled j.uses es rows) ≡ 0
    unfolding settled
    count-settled [] rows h = h
    count-settled (e ∷ es) rows h = count-settled es _ (go (is_leaf e.node))
      where
        go : (b : Bool) → count_if q (cond b (take e.span.first rows ++ fresh j.uses (within e.span rows) ++ drop e.span.end rows) rows) ≡ 0
        go false = h
        go true =
            let f = take e.span.first rows in
            let m = fresh j.uses (within e.span rows) in
            let x = count_append q (f ++ m) (drop e.span.end rows) in
            let y = count_append q f m in
            omega (arith, count-fresh j.uses (within e.span rows), count-within q e.span rows, count-part q e.span.first rows, count-part q e.span.end rows)

    pruned-rows : (s : State M) → (pruned j s).rows ≡ s.rows
    unfolding pruned
    pruned-rows s = grind arith

    count_settled_state : (s : State M) → count_if q s.rows ≡ 0 → count_if q (settled_state j s).rows ≡ 0
    unfolding settled_state
    count_settled_state s h = search (arith, count-settled)

    count-finished : (s : State M) (flat : M.Total) → count_if q s.rows ≡ 0 → count_if q (finished j s flat).rows ≡ 0
    unfolding finished result_of
    count-finished s flat h = count_settled_state (pruned j s) (rw (pruned-rows s) h)

    count-learned : (limit : ℕ) (rows : List Row) → count_if q rows ≡ 0 → count_if q (learned j limit rows).rows ≡ 0
    unfolding learned root_state
    count-learned limit rows h = count-finished (steps j (limit - 1) (root_state j rows)) (j.flat rows) (count-steps (limit - 1) (root_state j rows) (count-fresh j.uses rows ∙ h))

    count-deepened : (limit : ℕ) (seed : List (Record M)) (rows : List Row) → count_if q rows ≡ 0 → count_if q (deepened j limit seed rows).rows ≡ 0
    unfolding deepened seed_state
    count-deepened limit seed rows h = count-finished (steps j _ (seed_state j seed rows)) (j.flat rows) (count-steps _ (seed_state j seed rows) (count-seed (nodes_of seed) rows 0 seed _ h refl))

-- ---- learning and deepening
module _ {M : Meter} (j : Job M) (p : Row → Bool) (blind : (z : ℕ) (r : Row) → p (with_zero z r) ≡ p r) where
  pub learned-formed : (limit : ℕ) (rows : List Row) → T (all p rows) → T (all p (learned j limit rows).rows)
  learned-formed limit rows t = none_failing p (learned j limit rows).rows (count-learned (λ (r : Row). not (p r)) (λ z r. ap not (blind z r)) j limit rows (count_failing p rows t))

  pub deepened-formed : (limit : ℕ) (seed : List (Record M)) (rows : List Row) → T (all p rows) → T (all p (deepened j limit seed rows).rows)
  deepened-formed limit seed rows t = none_failing p (deepened j limit seed rows).rows (count-deepened (λ (r : Row). not (p r)) (λ z r. ap not (blind z r)) j limit seed rows (count_failing p rows t))
