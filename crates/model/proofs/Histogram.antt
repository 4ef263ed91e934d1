-- A histogram's counts add up to at most the rows, and its extra bits are at most 61 a row. Assumes nothing.
use mathlib.Core.Path.{◌≡◌, refl}
use Prim.Native.Nat.{ℕ, zero, suc, ◌+◌, ◌*◌, ◌≤◌, ◌<◌}
use native.Mathlib.Nat.{mul-le-mul_left}
use native.Mathlib.Omega.{arith}
use mathlib.Core.Bool.{cond}
use mathlib.Core.List.{List, [], ◌∷◌, map}
use lib.ListN.{length}
use lib.Dec.{eqb}
use Rattle.model.specs.Lists.{range, count_if}
use Rattle.model.specs.Rows.{Row, tok_of}
use Rattle.model.specs.Token.{extra_count}
use Rattle.model.specs.Cost.{has_token, histogram, extra_from}
use Rattle.model.proofs.Places.{length-each}

abbrev pub sum_of : List ℕ → ℕ
sum_of [] = 0
sum_of (c ∷ cs) = c + sum_of cs

-- ---- the counts
pub length-histogram : (alphabet p : ℕ) (rows : List Row) → length (histogram alphabet p rows) ≡ alphabet
unfolding histogram
length-histogram alphabet p rows = length-each (λ (t : ℕ). count_if (has_token p t) rows) 0 alphabet

pub sum_map_add : (f g : ℕ → ℕ) (ts : List ℕ) → sum_of (map (λ (t : ℕ). f t + g t) ts) ≡ sum_of (map f ts) + sum_of (map g ts)
sum_map_add f g [] = refl
sum_map_add f g (t ∷ ts) = let ih = sum_map_add f g ts in omega arith

pub sum_map_zero : (ts : List ℕ) → sum_of (map (λ (t : ℕ). 0) ts) ≡ 0
sum_map_zero [] = refl
sum_map_zero (t ∷ ts) = omega (arith, sum_map_zero ts)

-- how often a number stands in a range
abbrev pub hits : ℕ → List ℕ → ℕ
hits x ts = sum_of (map (λ (t : ℕ). cond (eqb x t) 1 0) ts)

pub hits-before : (x first count : ℕ) → x < first → hits x (range first count) ≡ 0
hits-before x first zero h = refl
hits-before x first (suc count) h = search (arith, hits-before x (suc first) count (omega arith))

hits-once : (x first count : ℕ) → hits x (range first count) ≤ 1
hits-once x first zero = omega arith
hits-once x first (suc count) = search (arith, hits-before, hits-once x (suc first) count)

-- what has one key is counted at most once
pub keyed-sum : {A : Type 0} (key : A → ℕ) (first count : ℕ) (xs : List A) → sum_of (map (λ (t : ℕ). count_if (λ (x : A). eqb (key x) t) xs) (range first count)) ≤ length xs
keyed-sum key first count [] = omega (arith, sum_map_zero (range first count))
keyed-sum {A} key first count (x ∷ xs) =
    let ih = keyed-sum key first count xs in
    let one = hits-once (key x) first count in
    omega (arith, sum_map_add (λ (t : ℕ). cond (eqb (key x) t) 1 0) (λ (t : ℕ). count_if (λ (x : A). eqb (key x) t) xs) (range first count))

pub histogram-sum : (alphabet p : ℕ) (rows : List Row) → sum_of (histogram alphabet p rows) ≤ length rows
unfolding histogram
histogram-sum alphabet p rows = keyed-sum (λ (r : Row). tok_of r p) 0 alphabet rows

-- ---- the extra bits
extra_count-le : (t : ℕ) → t < 256 → extra_count t ≤ 61
unfolding extra_count
extra_count-le t h = search arith

pub extra_from-le : (t : ℕ) (cs : List ℕ) → t + length cs ≤ 256 → extra_from t cs ≤ 61 * sum_of cs
unfolding extra_from
extra_from-le t [] h = omega arith
extra_from-le t (c ∷ cs) h = search (arith, mul-le-mul_left, extra_count-le, extra_from-le (suc t) cs (omega arith))

pub histogram-extra : (alphabet p : ℕ) (rows : List Row) → alphabet ≤ 256 → extra_from 0 (histogram alphabet p rows) ≤ 61 * length rows
histogram-extra alphabet p rows h = search (arith, length-histogram, extra_from-le, histogram-sum)
