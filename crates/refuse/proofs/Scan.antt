-- A scan that stops at the first misfit gives the answer of the model's test: predictors, tokens and logarithms. Assumes nothing.
use mathlib.Core.Path.{◌≡◌, refl, ap}
use mathlib.Core.Bool.{Bool, true, false, cond, not, ◌&&◌, ◌||◌, not-not}
use mathlib.Core.List.{List, [], ◌∷◌}
use mathlib.Core.Option as maybe
use mathlib.Core.Option.{none, some}
use Prim.Native.Nat.{ℕ, zero, suc, ◌+◌, ◌-◌, ◌*◌, ◌/◌, ◌≤◌, ◌<◌}
use native.Mathlib.Nat.{zero-add}
use native.Mathlib.Decide.{dec_lt}
use native.Mathlib.Omega.{arith}
use borrow.Author.Tests.{lt-ltb, le-ltb}
use lib.ListN.{length, get_or, take, drop, length-take, length-drop}
use lib.Seq.{get_or-take, get_or-drop}
use lib.Dec.{T, ltb}
use lib.Ieee.{Float, nan}
use Rattle.std.specs.Prelude.{Option, Some, None, MatchOption}
use Rattle.std.specs.List.{list_any, list_all, range_with_len, AllWithin, HoldsAt}
use Rattle.model.specs.Lists.{keep, all, is_empty}
use Rattle.model.specs.Settings.{Settings}
use Rattle.model.specs.Cost.{is_usable, usable}
use Rattle.model.specs.Meter.{Meter}
use Rattle.model.specs.Single.{singles}
use Rattle.model.specs.Profile.{single}
use Rattle.model.specs.Lent.{Lent, row_count}
use Rattle.model.specs.Refuse.{has_no_predictor, bad_row_from, is_bad_logs}
use Rattle.refuse.specs.Accepted.{log_fits}
use Rattle.model.proofs.Keeping.{all-at}

-- ---- every element passes a test
module _ {A : Type 0} (p : A → Bool) (z : A) where
  pub all_pass : (xs : List A) → ((i : ℕ) → i < length xs → p (get_or xs i z) ≡ true) → all p xs ≡ true
  all_pass [] h = refl
  all_pass (x ∷ xs) h =
      let here : p x ≡ true = h 0 (omega arith) in
      rw here (all_pass xs (λ i k. h (suc i) (omega arith)))

  pub one-fails : (xs : List A) (i : ℕ) → i < length xs → p (get_or xs i z) ≡ false → all p xs ≡ false
  one-fails [] i k h = absurd (omega arith)
  one-fails (x ∷ xs) zero k h = rw h
  one-fails (x ∷ xs) (suc i) k h = go (p x) (one-fails xs i (omega arith) h)
    where
      go : (b : Bool) → all p xs ≡ false → (b && all p xs) ≡ false
      go true e = e
      go false e = refl

-- ---- 2: a predictor is kept if one passes the test
any-kept : (p : ℕ → Bool) (xs : List ℕ) → list_any p xs ≡ not (is_empty (keep p xs))
any-kept p [] = refl
any-kept p (x ∷ xs) = go (p x) (any-kept p xs)
  where
    go : (b : Bool) → list_any p xs ≡ not (is_empty (keep p xs)) → (b || list_any p xs) ≡ not (is_empty (cond b (x ∷ keep p xs) (keep p xs)))
    go true e = refl
    go false e = e

pub usable-any : {M : Meter} (t : Settings M) → list_any (is_usable t) (range_with_len 0 14) ≡ not (has_no_predictor t)
unfolding has_no_predictor usable
usable-any t = any-kept (is_usable t) (range_with_len 0 14)

-- ---- 4: the tokens, a row at a time
row_bad : (a n i k : ℕ) (toks : List ℕ) → k < 14 → k < length toks → a ≤ get_or toks k 0 → bad_row_from a (suc n) i toks ≡ some i
unfolding bad_row_from
row_bad a n i k toks h l here =
    let at : get_or (take 14 toks) k 0 ≡ get_or toks k 0 = get_or-take 14 toks k 0 h in
    rw (one-fails (λ (t : ℕ). ltb t a) 0 (take 14 toks) k (simp length-take (omega arith)) (rw at (le-ltb _ _ here)))

row-good : (a n i : ℕ) (toks : List ℕ) → ((j : ℕ) → j < 14 → j < length toks → get_or toks j 0 < a)
    → bad_row_from a (suc n) i toks ≡ bad_row_from a n (suc i) (drop 14 toks)
unfolding bad_row_from
row-good a n i toks good = rw (all_pass (λ (t : ℕ). ltb t a) 0 (take 14 toks) each)
  where
    each : (j : ℕ) → j < length (take 14 toks) → ltb (get_or (take 14 toks) j 0) a ≡ true
    each j h =
        let k : j < 14 = omega (arith, length-take 14 toks) in
        rw (get_or-take 14 toks j 0 k) (lt-ltb _ _ (good j k (omega (arith, length-take 14 toks))))

bad_from : (a n i k : ℕ) (toks : List ℕ) → length toks ≡ 14 * n → k < length toks → ((j : ℕ) → j < k → get_or toks j 0 < a) → a ≤ get_or toks k 0
    → bad_row_from a n i toks ≡ some (i + k / 14)
bad_from a zero i k toks e l before here = absurd (omega arith)
bad_from a (suc n) i k toks e l before here =
    elim (dec_lt k 14) [
      | yes h ↦ let place : i + k / 14 ≡ i = omega arith in rw place (row_bad a n i k toks h l here)
      | no h ↦
          let place : i + k / 14 ≡ suc i + (k - 14) / 14 = omega arith in
          let rest = length-drop 14 toks in
          rw (row-good a n i toks (λ j g m. before j (omega arith)), place)
          (bad_from a n (suc i) (k - 14) (drop 14 toks) (omega arith) (omega arith) (λ j g. rw (get_or-drop 14 toks j 0) (before (14 + j) (omega arith)))
          (let at : 14 + (k - 14) ≡ k = omega arith in rw (get_or-drop 14 toks (k - 14) 0, at) here))
    ]

-- the first token of whole rows that is not below the alphabet stands in the row that is named
pub bad_found : (a k : ℕ) (toks : List ℕ) → length toks ≡ 14 * (length toks / 14) → k < length toks → ((j : ℕ) → j < k → get_or toks j 0 < a)
    → a ≤ get_or toks k 0 → bad_row_from a (length toks / 14) 0 toks ≡ some (k / 14)
bad_found a k toks e l before here = rw zero-add at (bad_from a (length toks / 14) 0 k toks e l before here)

pub bad_none : (a n i : ℕ) (toks : List ℕ) → ((j : ℕ) → j < length toks → get_or toks j 0 < a) → bad_row_from a n i toks ≡ none
unfolding bad_row_from
bad_none a zero i toks good = refl
bad_none a (suc n) i toks good =
    rw (row-good a n i toks (λ j h l. good j l))
    (bad_none a n (suc i) (drop 14 toks) (λ j h. let d = length-drop 14 toks in rw (get_or-drop 14 toks j 0) (good (14 + j) (omega arith))))

-- the row of a cell
abbrev pub row_in : Option ℕ → maybe.Option ℕ
row_in None = maybe.none
row_in (Some cell) = maybe.some (cell / 14)

-- the first token that is not below the alphabet names its row
pub row-of : (a : ℕ) (toks : List ℕ) (o : Option ℕ) → length toks ≡ 14 * (length toks / 14)
    → MatchOption o (AllWithin (λ t. t < a) toks 0 (length toks)) (λ i. (i < length toks) × HoldsAt (λ t. a ≤ t) toks i × AllWithin (λ t. t < a) toks 0 i)
    → bad_row_from a (length toks / 14) 0 toks ≡ row_in o
row-of a toks None e h = bad_none a (length toks / 14) 0 toks (λ j l. h j 0 (omega arith) l)
row-of a toks (Some i) e h = bad_found a i toks e h.0 (λ j l. h.2 j 0 (omega arith) l) (h.1 0)

-- ---- 6: the logarithms

each-all : {A : Type 0} (p : A → Bool) (xs : List A) → list_all p xs ≡ all p xs
each-all p [] = refl
each-all p (x ∷ xs) = ap (λ (b : Bool). p x && b) (each-all p xs)

module _ (logs : List Float) (x : Lent singles) where
  pub logs-short : length logs ≤ row_count x → is_bad_logs single logs x ≡ true
  unfolding is_bad_logs
  logs-short h = rw (lt-ltb (length logs) (row_count x + 1) (omega arith))

  pub logs-tested : row_count x < length logs → list_all log_fits (take (row_count x) (drop 1 logs)) ≡ not (is_bad_logs single logs x)
  unfolding is_bad_logs
  logs-tested h = rw (le-ltb (length logs) (row_count x + 1) (omega arith), not-not) (each-all log_fits (take (row_count x) (drop 1 logs)))

  -- entry i of those looked at is entry i + 1 of the list
  abbrev looked : List Float
  looked = take (row_count x) (drop 1 logs)

  module _ (enough : row_count x < length logs) where
    looked-length : length looked ≡ row_count x
    looked-length = simp (length-take, length-drop) (omega arith)

    looked-at : (i : ℕ) → i < row_count x → get_or looked i nan ≡ get_or logs (1 + i) nan
    looked-at i h = rw (get_or-take (row_count x) (drop 1 logs) i nan h, get_or-drop 1 logs i nan)

    pub logs_at : T (single.logs_fit looked) → (k : ℕ) → 0 < k → k ≤ row_count x → T (log_fits (get_or logs k nan))
    logs_at t k p h =
        let at : 1 + (k - 1) ≡ k = omega arith in
        rw (looked-at (k - 1) (omega arith), at) at (all-at log_fits looked (k - 1) nan (omega (arith, looked-length)) t)
