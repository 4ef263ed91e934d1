-- Lists read by place: a function's values at 0, 1, .., and the rows that flat lists hold. Assumes nothing.
use mathlib.Core.Path.{◌≡◌, refl, sym, ap, ◌∙◌}
use Prim.Native.Nat.{ℕ, zero, suc, ◌+◌, ◌*◌, ◌<◌}
use native.Mathlib.Nat.{add-zero, zero-add, suc-add}
use native.Mathlib.Numerals.{add-one}
use native.Mathlib.Omega.{arith}
use mathlib.Core.List.{List, [], ◌∷◌, ◌++◌, map, map-append}
use lib.ListN.{length, get_or, take, drop, set}
use lib.Seq.{drop-cons, drop-drop, set_at, append_snoc, get_or-take, get_or-drop}
use lib.IntN.{ℤ, pos}
use Rattle.std.proofs.lemmas.List.{get_or_default}
use Rattle.model.specs.Lists.{range}
use Rattle.model.specs.Settings.{props_per_row, toks_per_row}
use Rattle.model.specs.Rows.{Row, prop_of, tok_of, rows_of}
use Rattle.model.specs.Promise.{no_row}

-- inside a list the default is never read
pub get_d_any : {A : Type 0} (l : List A) (i : ℕ) (d e : A) → i < length l → get_or l i d ≡ get_or l i e
get_d_any l i d e h = get_or_default l i d e h

-- a store behind the first elements
pub set_append_right : {A : Type 0} (xs ys : List A) (i : ℕ) (v : A) → set (xs ++ ys) (length xs + i) v ≡ xs ++ set ys i v
set_append_right [] ys i v = rw zero-add
set_append_right {A} (x ∷ xs) ys i v = rw suc-add (ap (λ (l : List A). x ∷ l) (set_append_right xs ys i v))

-- ---- a function's values at 0, 1, ..
pub length-range : (first n : ℕ) → length (range first n) ≡ n
length-range first zero = refl
length-range first (suc n) = ap suc (length-range (suc first) n)

-- one number more
pub range-more : (n : ℕ) → range 0 (suc n) ≡ range 0 n ++ (n ∷ [])
range-more n = rw (zero-add n) at (go 0 n)
  where
    go : (first n : ℕ) → range first (suc n) ≡ range first n ++ ((first + n) ∷ [])
    go first zero = rw add-zero
    go first (suc n) = let e : suc first + n ≡ first + suc n = omega arith in ap (λ (l : List ℕ). first ∷ l) (rw e at (go (suc first) n))

module _ {ℓ} {A : Type ℓ} (f : ℕ → A) where
  pub length-each : (first n : ℕ) → length (map f (range first n)) ≡ n
  length-each first zero = refl
  length-each first (suc n) = ap suc (length-each (suc first) n)

  each_from : (first n i : ℕ) (d : A) → i < n → get_or (map f (range first n)) i d ≡ f (first + i)
  each_from first zero i d h = absurd (omega arith)
  each_from first (suc n) zero d h = rw add-zero
  each_from first (suc n) (suc i) d h = let e : suc first + i ≡ first + suc i = omega arith in each_from (suc first) n i d (omega arith) ∙ ap f e

  pub each_at : (n i : ℕ) (d : A) → i < n → get_or (map f (range 0 n)) i d ≡ f i
  each_at n i d h = each_from 0 n i d h ∙ ap f (zero-add i)

  pub each_more : (n : ℕ) → map f (range 0 (suc n)) ≡ map f (range 0 n) ++ (f n ∷ [])
  each_more n = ap (map f) (range-more n) ∙ map-append f (range 0 n) (n ∷ [])

  -- a list that is written from the front on
  pub each-written : (l : List A) (n : ℕ) → n < length l → set (map f (range 0 n) ++ drop n l) n (f n) ≡ map f (range 0 (n + 1)) ++ drop (n + 1) l
  each-written l n h =
      rw (add-one, drop-cons l n (f n) h, set_at (map f (range 0 n)) (get_or l n (f n)) (drop (suc n) l) (f n) n (length-each 0 n))
      (sym (ap (λ (r : List A). r ++ drop (suc n) l) (each_more n) ∙ append_snoc (map f (range 0 n)) (f n) (drop (suc n) l)))

-- ---- rows
pub length_rows_of : (n : ℕ) (ps : List ℤ) (ts : List ℕ) (rs : List ℤ) → length (rows_of n ps ts rs) ≡ n
length_rows_of zero ps ts rs = refl
length_rows_of (suc n) ps ts rs = ap suc (length_rows_of n (drop props_per_row ps) (drop toks_per_row ts) (drop 1 rs))

-- row i: 24 properties from i × 24 on, 14 tokens from i × 14 on, and residual i
pub row-at : (n : ℕ) (ps : List ℤ) (ts : List ℕ) (rs : List ℤ) (i : ℕ) → i < n → get_or (rows_of n ps ts rs) i no_row
    ≡ record { props = take props_per_row (drop (i * props_per_row) ps); toks = take toks_per_row (drop (i * toks_per_row) ts); res = get_or rs i (pos 0) }
row-at zero ps ts rs i h = absurd (omega arith)
row-at (suc n) ps ts rs zero h = refl
row-at (suc n) ps ts rs (suc i) h =
    let p : props_per_row + i * props_per_row ≡ suc i * props_per_row = omega arith in
    let t : toks_per_row + i * toks_per_row ≡ suc i * toks_per_row = omega arith in
    let s : 1 + i ≡ suc i = omega arith in
    row-at n (drop props_per_row ps) (drop toks_per_row ts) (drop 1 rs) i (omega arith)
    ∙ rw (drop-drop (i * props_per_row) props_per_row ps, drop-drop (i * toks_per_row) toks_per_row ts, get_or-drop 1 rs i (pos 0), p, t, s)

module _ (n : ℕ) (ps : List ℤ) (ts : List ℕ) (rs : List ℤ) (i p : ℕ) (h : i < n) where
  pub property-at : p < props_per_row → prop_of (get_or (rows_of n ps ts rs) i no_row) p ≡ get_or ps (i * props_per_row + p) (pos 0)
  property-at l = ap (λ (r : Row). prop_of r p) (row-at n ps ts rs i h) ∙ get_or-take props_per_row (drop (i * props_per_row) ps) p (pos 0) l ∙ get_or-drop (i * props_per_row) ps p (pos 0)

  pub token-at : p < toks_per_row → tok_of (get_or (rows_of n ps ts rs) i no_row) p ≡ get_or ts (i * toks_per_row + p) 0
  token-at l = ap (λ (r : Row). tok_of r p) (row-at n ps ts rs i h) ∙ get_or-take toks_per_row (drop (i * toks_per_row) ts) p 0 l ∙ get_or-drop (i * toks_per_row) ts p 0
