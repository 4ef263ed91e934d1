-- Turns and ends of the sweeps over a window's counts. Assumes nothing.
use mathlib.Core.Path.{◌≡◌, refl, sym, ap, ◌∙◌}
use mathlib.Core.List.{List, [], ◌∷◌}
use Prim.Native.Nat.{ℕ, zero, suc, ◌+◌, ◌-◌, ◌*◌, ◌≤◌, ◌<◌}
use native.Mathlib.Nat.{add-mul}
use native.Mathlib.Omega.{arith}
use lib.ListN.{length, get_or}
use lib.Ieee.{Float}
use Rattle.model.specs.Settings.{max_rows}
use Rattle.model.specs.Single.{singles}
use Rattle.model.specs.Token.{extra_count}
use Rattle.model.specs.Cost.{with_count, entropy_from, extra_from}
use Rattle.cost.specs.Counted.{rows_in}
use Rattle.score_sides.specs.declared.Sides.{Sides}
use Rattle.score_sides.specs.Sides.{rest, entropies_of, costs_of, SideCounted}

-- ---- the other side's counts

pub rest-length : (ns ls : List ℕ) → length ns ≡ length ls → length (rest ns ls) ≡ length ls
unfolding rest
rest-length [] ls h = h
rest-length (n ∷ ns) [] h = absurd (omega arith)
rest-length (n ∷ ns) (l ∷ ls) h = ap suc (rest-length ns ls (omega arith))

pub rest_at : (ns ls : List ℕ) (t : ℕ) → length ns ≡ length ls → get_or (rest ns ls) t 0 ≡ get_or ns t 0 - get_or ls t 0
unfolding rest
rest_at [] ls t h = omega arith
rest_at (n ∷ ns) [] t h = absurd (omega arith)
rest_at (n ∷ ns) (l ∷ ls) zero h = refl
rest_at (n ∷ ns) (l ∷ ls) (suc t) h = rest_at ns ls t (omega arith)

left-rows : (ns ls : List ℕ) → length ns ≡ length ls → ((t : ℕ) → get_or ls t 0 ≤ get_or ns t 0) → rows_in ls ≤ rows_in ns
unfolding rows_in
left-rows ns [] h u = omega arith
left-rows [] (l ∷ ls) h u = absurd (omega arith)
left-rows (n ∷ ns) (l ∷ ls) h u = omega (arith, u 0, left-rows ns ls (omega arith) (λ t. u (suc t)))

-- ---- a sweep over what is left of both lists

module _ {l n : ℕ} {all ls both ns : List ℕ} {logs : List Float} (e : all ≡ l ∷ ls) (f : both ≡ n ∷ ns) (h : SideCounted all both logs) where
  -- a turn counts no more than the node does, which is few, and the logarithms reach it
  pub counts-here : (l ≤ n) × (n ≤ max_rows) × (n < length logs)
  unfolding rows_in
  counts-here = let k = rw (e, f) at h in (k.under 0, omega (arith, k.small), omega (arith, k.reach))

  pub counts-left : SideCounted ls ns logs
  unfolding rows_in
  counts-left =
      let k = rw (e, f) at h in record {
        long = omega (arith, k.long);
        under = λ t. k.under (suc t);
        small = omega (arith, k.small);
        reach = omega (arith, k.reach);
      }

  -- and leaves the rest of the other side's
  pub rest-left : rest both all ≡ (n - l) ∷ rest ns ls
  unfolding rest
  rest-left = rw (e, f)

module _ (logs : List Float) (top : Float) where
  pub entropy-left : (bits : Float) {next whole : Float} {x : ℕ} {all xs : List ℕ} → all ≡ x ∷ xs → next ≡ with_count singles logs top bits x
      → entropy_from singles logs top bits all ≡ whole → entropy_from singles logs top next xs ≡ whole
  unfolding entropy_from
  entropy-left bits e f h = rw f (rw e at h)

  pub entropy-done : {bits whole : Float} (xs : List ℕ) → length xs ≡ 0 → entropy_from singles logs top bits xs ≡ whole → bits ≡ whole
  unfolding entropy_from
  entropy-done [] n h = h
  entropy-done (x ∷ xs) n h = absurd (omega arith)

-- ---- the extra bits

-- one side counts few rows
module _ (left node : List ℕ) (logs : List Float) (h : SideCounted left node logs) where
  pub few-left : rows_in left ≤ max_rows
  few-left = omega (arith, left-rows node left h.long h.under, h.small)

-- the node's extra bits are both sides'
pub extra-sides : (t : ℕ) (ns ls : List ℕ) → length ns ≡ length ls → ((i : ℕ) → get_or ls i 0 ≤ get_or ns i 0) → extra_from t ls + extra_from t (rest ns ls) ≡ extra_from t ns
unfolding extra_from rest
extra-sides t [] [] h u = refl
extra-sides t [] (l ∷ ls) h u = absurd (omega arith)
extra-sides t (n ∷ ns) [] h u = absurd (omega arith)
extra-sides t (n ∷ ns) (l ∷ ls) h u =
    let whole : l + (n - l) ≡ n = omega (arith, u 0) in
    let parts : l * extra_count t + (n - l) * extra_count t ≡ n * extra_count t = sym (add-mul l (n - l) (extra_count t)) ∙ ap (λ (k : ℕ). k * extra_count t) whole in
    omega (arith, extra-sides (suc t) ns ls (omega arith) (λ i. u (suc i)))

pub costs-join : (left node : List ℕ) (first : ℕ) (side_logs : Sides) (logs : List Float) (bits : Sides) (le gt : ℕ) → bits ≡ entropies_of left node side_logs logs
    → le ≡ extra_from first left → gt ≡ extra_from first (rest node left)
    → ◌≡◌ {A = Sides} (record { le = singles.plus bits.le (singles.extra le); gt = singles.plus bits.gt (singles.extra gt) }) (costs_of left node first side_logs logs)
unfolding entropies_of costs_of
costs-join left node first side_logs logs bits le gt e f g = rw (e, f, g)
