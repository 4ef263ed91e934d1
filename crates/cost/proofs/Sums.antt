-- Laws of a histogram's two sums, at single precision: a turn of each loop, counts of zero, and the bounds that make each cast exact.
-- Assumes nothing.
use mathlib.Core.Path.{◌≡◌, refl, sym, ap, ◌∙◌}
use mathlib.Core.List.{List, [], ◌∷◌}
use Prim.Native.Nat.{ℕ, zero, suc, ◌+◌, ◌-◌, ◌*◌, ◌/◌, ◌^◌, ◌≤◌, ◌<◌, min}
use native.Mathlib.Numerals.{add-one}
use native.Mathlib.Decide.{dec_le}
use native.Mathlib.Omega.{arith}
use borrow.Author.Tests.{lt-ltb, le-ltb}
use lib.Dec.{T, le→leb}
use lib.IntN.{pos}
use lib.ListN.{length, get_or, take, drop, drop_of_length-le}
use lib.Seq.{drop-cons}
use lib.Ieee.{Float, binary32, add, sub, mul, in_float}
use Rattle.std.proofs.lemmas.Slice.{between_to_end}
use Rattle.model.specs.Token.{extra_count}
use Rattle.model.specs.Single.{single_of, singles}
use Rattle.model.specs.Cost.{log_of, with_count, entropy_from, extra_from}
use Rattle.model.proofs.Places.{get_d_any}
use Rattle.model.proofs.Histogram.{sum_of, extra_from-le}
use Rattle.model.proofs.Bounded.{get_d_le_sum}
use Rattle.cost.specs.Counted.{rows_in}

-- ---- how many rows a histogram counts

pub rows_are : (hist : List ℕ) → rows_in hist ≡ sum_of hist
unfolding rows_in
rows_are [] = refl
rows_are (c ∷ cs) = ap (λ (n : ℕ). c + n) (rows_are cs)

pub count_le_rows : (hist : List ℕ) (t : ℕ) → get_or hist t 0 ≤ rows_in hist
count_le_rows hist t = rw rows_are (get_d_le_sum hist t)

-- ---- a count as a single: up to 2 ^ 24 the cast is exact

pub single_exact : (n : ℕ) → n ≤ 2 ^ 24 → T (in_float binary32 (pos n))
unfolding in_float
single_exact n h = le→leb n (2 ^ 24) h

-- ---- the entropy

module _ (logs : List Float) (top : Float) where
  pub with_count-none : (bits : Float) (c : ℕ) → c ≡ 0 → with_count singles logs top bits c ≡ bits
  unfolding with_count
  with_count-none bits zero h = refl
  with_count-none bits (suc c) h = absurd (omega arith)

  pub with_count-some : (bits : Float) (c : ℕ) (d : Float) → (c ≡ 0 → ⊥) → c < length logs
      → with_count singles logs top bits c ≡ add binary32 bits (mul binary32 (single_of c) (sub binary32 top (get_or logs c d)))
  unfolding with_count log_of
  with_count-some bits zero d h l = absurd (h refl)
  with_count-some bits (suc c) d h l = ap (λ (x : Float). add binary32 bits (mul binary32 (single_of (suc c)) (sub binary32 top x))) (get_d_any logs (suc c) singles.nought d l)

  -- a turn of the loop that adds count i: the sum so far, with what is left, stays the whole
  pub entropy_turn : (hist : List ℕ) (i : ℕ) (bits next whole : Float) → i < length hist → next ≡ with_count singles logs top bits (get_or hist i 0)
      → entropy_from singles logs top bits (drop i hist) ≡ whole → entropy_from singles logs top next (drop (i + 1) hist) ≡ whole
  unfolding entropy_from
  entropy_turn hist i bits next whole h e inv = rw (e, add-one) (sym (ap (entropy_from singles logs top bits) (drop-cons hist i 0 h)) ∙ inv)

  -- the end of the loop
  pub entropy_end : (hist : List ℕ) (i : ℕ) (bits whole : Float) → length hist ≤ i → entropy_from singles logs top bits (drop i hist) ≡ whole → bits ≡ whole
  unfolding entropy_from
  entropy_end hist i bits whole h inv = sym (ap (entropy_from singles logs top bits) (drop_of_length-le hist {i = i} h)) ∙ inv

  -- counts that are all zero leave the sum as it is
  pub entropy_zeros : (bits : Float) (hist : List ℕ) → rows_in hist ≡ 0 → entropy_from singles logs top bits hist ≡ bits
  unfolding entropy_from with_count rows_in
  entropy_zeros bits [] h = refl
  entropy_zeros bits (zero ∷ cs) h = entropy_zeros bits cs (omega arith)
  entropy_zeros bits (suc c ∷ cs) h = absurd (omega arith)

-- ---- the extra bits

pub extra_from_16 : (t : ℕ) → 16 ≤ t → extra_count t ≡ t / 4 - 2
unfolding extra_count
extra_from_16 t h = rw (le-ltb t 16 h)

pub extra_le_rows : (t : ℕ) (hist : List ℕ) → t + length hist ≤ 256 → extra_from t hist ≤ 61 * rows_in hist
extra_le_rows t hist h = rw rows_are (extra_from-le t hist h)

-- tokens under 16 have none
pub extra_skip : (t n : ℕ) (hist : List ℕ) → t + n ≤ 16 → extra_from t hist ≡ extra_from (t + n) (drop n hist)
unfolding extra_from extra_count
extra_skip t zero hist h = let e : t + 0 ≡ t = omega arith in rw e
extra_skip t (suc n) [] h = refl
extra_skip t (suc n) (c ∷ cs) h =
    let e : suc t + n ≡ t + suc n = omega arith in
    let ih : extra_from (suc t) cs ≡ extra_from (t + suc n) (drop n cs) = extra_skip (suc t) n cs (omega arith) ∙ ap (λ (k : ℕ). extra_from k (drop n cs)) e in
    rw (lt-ltb t 16 (omega arith)) (omega arith)

-- the code's loop begins where tokens of 16 and more may stand
pub extra-start : (first low : ℕ) (hist : List ℕ) → low ≡ min (16 - first) (length hist) → extra_from (first + low) (take (length hist - low) (drop low hist)) ≡ extra_from first hist
extra-start first low hist e = let all : take (length hist - low) (drop low hist) ≡ drop low hist = between_to_end hist low (length hist) (omega arith) in
    elim (dec_le first 16) [
      | yes h ↦ rw all (sym (extra_skip first low hist (omega arith)))
      | no h ↦ (let z : low ≡ 0 = omega arith in let from : first + 0 ≡ first = omega arith in rw (all, z, from))
    ]

-- a turn of the loop that adds the extra bits of count t, where the first count is of the token `from`: no sum on the way is large, and what is left goes on to the whole
pub record ExtraTurn (hist : List ℕ) (from t bits whole : ℕ) : Type 0 where
  pub own : get_or hist t 0 * ((from + t) / 4 - 2) ≤ whole
  pub small : bits + get_or hist t 0 * ((from + t) / 4 - 2) ≤ whole
  pub more : bits + get_or hist t 0 * ((from + t) / 4 - 2) + extra_from (from + (t + 1)) (drop (t + 1) hist) ≡ whole

pub extra-turn : (hist : List ℕ) (from t bits whole : ℕ) → 16 ≤ from + t → t < length hist → bits + extra_from (from + t) (drop t hist) ≡ whole → ExtraTurn hist from t bits whole
unfolding extra_from
extra-turn hist from t bits whole high h inv =
    let next : suc (from + t) ≡ from + suc t = omega arith in
    let own : get_or hist t 0 * extra_count (from + t) ≡ get_or hist t 0 * ((from + t) / 4 - 2) = ap (λ (n : ℕ). get_or hist t 0 * n) (extra_from_16 (from + t) high) in
    let step : extra_from (from + t) (drop t hist) ≡ get_or hist t 0 * extra_count (from + t) + extra_from (from + suc t) (drop (suc t) hist) =
    ap (extra_from (from + t)) (drop-cons hist t 0 h) ∙ ap (λ (n : ℕ). get_or hist t 0 * extra_count (from + t) + extra_from n (drop (suc t) hist)) next in
    record { own = omega arith; small = omega arith; more = rw add-one (omega arith) }

-- the end of the loop
pub extra-end : (hist : List ℕ) (from t bits whole : ℕ) → length hist ≤ t → bits + extra_from (from + t) (drop t hist) ≡ whole → bits ≡ whole
unfolding extra_from
extra-end hist from t bits whole h inv = let none : extra_from (from + t) (drop t hist) ≡ 0 = ap (extra_from (from + t)) (drop_of_length-le hist {i = t} h) in omega arith
