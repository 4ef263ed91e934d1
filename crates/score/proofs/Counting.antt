-- Counts and histograms of the two sides of a threshold. Assumes nothing.
use mathlib.Core.Path.{◌≡◌, refl, sym, ap, ◌∙◌}
use mathlib.Core.Bool.{Bool, true, false, cond, not}
use mathlib.Core.List.{List, [], ◌∷◌, ◌++◌}
use Prim.Native.Nat.{ℕ, zero, suc, ◌+◌, ◌≤◌, ◌<◌}
use native.Mathlib.Omega.{arith}
use native.Mathlib.Decide.{ℕ_discrete}
use borrow.Author.Tests.{eq-eqb, ne_eqb}
use lib.ListN.{length, get_or, take, drop, take-append-drop}
use Rattle.model.specs.Lists.{range, count_if, keep}
use Rattle.model.specs.Rows.{Row, tok_of}
use Rattle.model.specs.Cost.{has_token, histogram}
use Rattle.model.proofs.Histogram.{sum_of, hits, sum_map_add, sum_map_zero, hits-before}
use Rattle.std.specs.List.{fold, sum}
use Rattle.cost.specs.Counted.{rows_in}
use Rattle.cost.proofs.Sums.{rows_are}

module _ {A : Type 0} where
  -- the two parts have all
  pub count-sides : (q b : A → Bool) (xs : List A) → count_if q (keep (λ (x : A). not (b x)) xs) + count_if q (keep b xs) ≡ count_if q xs
  count-sides q b [] = refl
  count-sides q b (x ∷ xs) = go (b x) (count-sides q b xs)
    where
      go : (t : Bool) → count_if q (keep (λ (x : A). not (b x)) xs) + count_if q (keep b xs) ≡ count_if q xs
          → count_if q (cond (not t) (x ∷ keep (λ (x : A). not (b x)) xs) (keep (λ (x : A). not (b x)) xs)) + count_if q (cond t (x ∷ keep b xs) (keep b xs)) ≡ cond (q x) 1 0 + count_if q xs
      go true h = omega arith
      go false h = omega arith

  pub length-sides : (b : A → Bool) (xs : List A) → length (keep (λ (x : A). not (b x)) xs) + length (keep b xs) ≡ length xs
  length-sides b [] = refl
  length-sides b (x ∷ xs) = go (b x) (length-sides b xs)
    where
      go : (t : Bool) → length (keep (λ (x : A). not (b x)) xs) + length (keep b xs) ≡ length xs
          → length (cond (not t) (x ∷ keep (λ (x : A). not (b x)) xs) (keep (λ (x : A). not (b x)) xs)) + length (cond t (x ∷ keep b xs) (keep b xs)) ≡ suc (length xs)
      go true h = omega arith
      go false h = omega arith

  -- what holds of each element of a list, by place
  abbrev pub All : (A → Type 0) → A → List A → Type 0
  All P d xs = (k : ℕ) → k < length xs → P (get_or xs k d)

  -- holds of each element that is kept
  pub all_keep : (P : A → Type 0) (d : A) (b : A → Bool) (xs : List A) → All P d xs → All P d (keep b xs)
  all_keep P d b [] h = h
  all_keep P d b (x ∷ xs) h = go (b x) (all_keep P d b xs (λ k l. h (suc k) (omega arith)))
    where
      here : All P d (keep b xs) → All P d (x ∷ keep b xs)
      here ih zero l = h 0 (omega arith)
      here ih (suc k) l = ih k (omega arith)

      go : (t : Bool) → All P d (keep b xs) → All P d (cond t (x ∷ keep b xs) (keep b xs))
      go true ih = here ih
      go false ih = ih

-- ---- how many rows counts have

pub rows_in_append : (xs ys : List ℕ) → rows_in (xs ++ ys) ≡ rows_in xs + rows_in ys
unfolding rows_in
rows_in_append [] ys = omega arith
rows_in_append (x ∷ xs) ys = omega (arith, rows_in_append xs ys)

pub rows_in-parts : (n : ℕ) (xs : List ℕ) → rows_in (take n xs) + rows_in (drop n xs) ≡ rows_in xs
rows_in-parts n xs = sym (rows_in_append (take n xs) (drop n xs)) ∙ ap rows_in (take-append-drop n xs)

pub rows_in-none : (h : List ℕ) → ((t : ℕ) → t < length h → get_or h t 0 ≡ 0) → rows_in h ≡ 0
unfolding rows_in
rows_in-none [] z = refl
rows_in-none (c ∷ cs) z = omega (arith, z 0 (omega arith), rows_in-none cs (λ t l. z (suc t) (omega arith)))

-- as the library sums them
sum-more : (n : ℕ) (xs : List ℕ) → fold ◌+◌ n xs ≡ n + rows_in xs
unfolding rows_in
sum-more n [] = omega arith
sum-more n (x ∷ xs) = omega (arith, sum-more (n + x) xs)

pub sum-is : (xs : List ℕ) → sum xs ≡ rows_in xs
sum-is xs = omega (arith, sum-more 0 xs)

-- a number is found once in a range that it lies in
hits-one : (v first n : ℕ) → first ≤ v → v < first + n → hits v (range first n) ≡ 1
hits-one v first zero l h = absurd (omega arith)
hits-one v first (suc n) l h = elim (ℕ_discrete v first) [
  | yes e ↦ rw (eq-eqb v first e) (let past = hits-before v (suc first) n (omega arith) in omega arith)
  | no e ↦ rw (ne_eqb v first e) (let ih = hits-one v (suc first) n (omega arith) (omega arith) in omega arith)
]

histogram-total : (alphabet p : ℕ) (d : Row) (rows : List Row) → All (λ (r : Row). tok_of r p < alphabet) d rows → sum_of (histogram alphabet p rows) ≡ length rows
unfolding histogram
histogram-total alphabet p d [] h = sum_map_zero (range 0 alphabet)
histogram-total alphabet p d (r ∷ rs) h =
    let s = sum_map_add (λ (t : ℕ). cond (has_token p t r) 1 0) (λ (t : ℕ). count_if (has_token p t) rs) (range 0 alphabet) in
    let own = h 0 (omega arith) in
    let one = hits-one (tok_of r p) 0 alphabet (omega arith) (omega arith) in
    let ih = histogram-total alphabet p d rs (λ k l. h (suc k) (omega arith)) in
    omega arith

-- a histogram counts each row once, if the tokens are below the alphabet
pub histogram-counts : (alphabet p : ℕ) (d : Row) (rows : List Row) → All (λ (r : Row). tok_of r p < alphabet) d rows → rows_in (histogram alphabet p rows) ≡ length rows
histogram-counts alphabet p d rows h = rows_are (histogram alphabet p rows) ∙ histogram-total alphabet p d rows h
