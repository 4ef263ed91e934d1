-- Probing a column: its cells, every so many of them, and how many those are. Assumes nothing.
use mathlib.Core.Path.{◌≡◌, refl, sym, ap, ◌∙◌}
use mathlib.Core.Bool.{Bool, true, false, cond}
use mathlib.Core.List.Memᴰ
use mathlib.Core.List.{List, [], ◌∷◌, ◌++◌, map, map-append, append_assoc, append-nil, Memᴰ}
use mathlib.Core.Logic.{◌⊎◌, inl, inr}
use Prim.Native.Nat.{ℕ, zero, suc, ◌+◌, ◌-◌, ◌*◌, ◌/◌, ◌%◌, ◌≤◌, ◌<◌, max}
use native.Mathlib.Nat.{mul-le-mul_right, suc-mul}
use Rattle.std.specs.Int.{div_ceil}
use Rattle.std.proofs.lemmas.Grind.{div_ceil_times}
use native.Mathlib.Numerals.{add-one}
use native.Mathlib.Decide.{dec_lt}
use native.Mathlib.Omega.{arith}
use lib.Dec.{eqb}
use lib.IntN.{ℤ, pos}
use lib.ListN.{length, get_or, set, take, drop, length-map, length-append}
use lib.Seq.{take-suc-set, length-take-le, get_or-take}
use Rattle.model.specs.Candidates.{stride, every}
use Rattle.model.proofs.Places.{length-each}
use Rattle.distinct.specs.Keys.{value_of, values}
use Rattle.candidates.specs.Column.{column, probe_of}

-- ---- the column
module _ (ps : List ℤ) (prop : ℕ) where
  abbrev cell : ℕ → ℤ
  cell row = get_or ps (row * 24 + prop) (pos 0)

  column-more : (row end : ℕ) → row < end → column ps prop row end ≡ cell row ∷ column ps prop (suc row) end
  unfolding column
  column-more row end h = let e : end - row ≡ suc (end - suc row) = omega arith in rw e

  column-none : (row end : ℕ) → end ≤ row → column ps prop row end ≡ []
  unfolding column
  column-none row end h = let e : end - row ≡ 0 = omega arith in rw e

  pub length-column : (first end : ℕ) → length (column ps prop first end) ≡ end - first
  unfolding column
  length-column first end = length-each cell first (end - first)

  pub drop-column : (k row end : ℕ) → drop k (column ps prop row end) ≡ column ps prop (row + k) end
  drop-column zero row end = let e : row + 0 ≡ row = omega arith in rw e
  drop-column (suc k) row end = go (dec_lt row end) (drop-column k (suc row) end) where
    e : suc row + k ≡ row + suc k
    e = omega arith

    go : Dec (row < end) → drop k (column ps prop (suc row) end) ≡ column ps prop (suc row + k) end → drop (suc k) (column ps prop row end) ≡ column ps prop (row + suc k) end
    go (yes h) ih = rw (column-more row end h) (ih ∙ ap (λ (r : ℕ). column ps prop r end) e)
    go (no h) ih = rw (column-none row end (omega arith), column-none (row + suc k) end (omega arith))

  -- ---- every step-th cell
  every_skip : (step k : ℕ) (xs : List ℤ) → every step k xs ≡ every step 0 (drop k xs)
  unfolding every
  every_skip step zero [] = refl
  every_skip step zero (x ∷ xs) = refl
  every_skip step (suc k) [] = refl
  every_skip step (suc k) (x ∷ xs) = every_skip step k xs

  every_first : (step : ℕ) (x : ℤ) (xs : List ℤ) → every step 0 (x ∷ xs) ≡ x ∷ every step (step - 1) xs
  unfolding every
  every_first step x xs = refl

  probe_more : (step row end : ℕ) → 0 < step → row < end → every step 0 (column ps prop row end) ≡ cell row ∷ every step 0 (column ps prop (row + step) end)
  probe_more step row end some h =
      let e : suc row + (step - 1) ≡ row + step = omega arith in
      ap (every step 0) (column-more row end h)
      ∙ every_first step (cell row) (column ps prop (suc row) end)
      ∙ ap (λ (l : List ℤ). cell row ∷ l) (every_skip step (step - 1) (column ps prop (suc row) end) ∙ ap (every step 0) (drop-column (step - 1) (suc row) end ∙ ap (λ (r : ℕ). column ps prop r end) e))

  probe_none : (step row end : ℕ) → end ≤ row → every step 0 (column ps prop row end) ≡ []
  unfolding every
  probe_none step row end h = rw (column-none row end h)

-- ---- the number of probed cells
every-few : (step k : ℕ) (xs : List ℤ) → k < step → length (every step k xs) * step + k < length xs + step
unfolding every
every-few step k [] h = omega arith
every-few step zero (x ∷ xs) h = omega (arith, every-few step (step - 1) xs (omega arith))
every-few step (suc k) (x ∷ xs) h = omega (arith, every-few step k xs (omega arith))

stride_least : (n : ℕ) → n < 1024 * stride n + 1024
unfolding stride
stride_least n = go (eqb (max (n / 1024) 1 % 2) 0) where
  go : (t : Bool) → n < 1024 * cond t (max (n / 1024) 1 + 1) (max (n / 1024) 1) + 1024
  go true = omega arith
  go false = omega arith

pub stride-some : (n : ℕ) → 0 < stride n
unfolding stride
stride-some n = go (eqb (max (n / 1024) 1 % 2) 0) where
  go : (t : Bool) → 0 < cond t (max (n / 1024) 1 + 1) (max (n / 1024) 1)
  go true = omega arith
  go false = omega arith

-- at most 2,047
column-few : (xs : List ℤ) → length (every (stride (length xs)) 0 xs) ≤ 2047
column-few xs = go (dec_lt (length (every step 0 xs)) 2048) where
  step : ℕ
  step = stride (length xs)

  go : Dec (length (every step 0 xs) < 2048) → length (every step 0 xs) ≤ 2047
  go (yes h) = omega arith
  go (no h) =
      let many : 2048 ≤ length (every step 0 xs) = omega arith in
      absurd (omega (arith, mul-le-mul_right step many, every-few step 0 xs (stride-some (length xs)), stride_least (length xs), stride-some (length xs)))

every-fewer : (step k : ℕ) (xs : List ℤ) → length (every step k xs) ≤ length xs
unfolding every
every-fewer step k [] = omega arith
every-fewer step zero (x ∷ xs) = omega (arith, every-fewer step (step - 1) xs)
every-fewer step (suc k) (x ∷ xs) = omega (arith, every-fewer step k xs)

pub every-mem {ℓ} : {A : Type ℓ} (step k : ℕ) (xs : List A) (x : A) → Memᴰ x (every step k xs) → Memᴰ x xs
unfolding every
every-mem step k [] x m = absurd (Memᴰ.not-nil m)
every-mem step zero (y ∷ ys) x m = go (Memᴰ.cases_cons m) (every-mem step (step - 1) ys x) where
  go : (x ≡ y) ⊎ Memᴰ x (every step (step - 1) ys) → (Memᴰ x (every step (step - 1) ys) → Memᴰ x ys) → Memᴰ x (y ∷ ys)
  go (inl e) ih = Memᴰ.head e
  go (inr n) ih = Memᴰ.tail (ih n)
every-mem step (suc k) (y ∷ ys) x m = Memᴰ.tail (every-mem step k ys x m)

-- ---- values of keys
values-more : (n k : ℕ) (keys : List ℕ) → n < length keys → values (n + 1) (set keys n k) ≡ values n keys ++ (value_of k ∷ [])
unfolding values
values-more n k keys h = ap (λ (j : ℕ). map value_of (take j (set keys n k))) (add-one n) ∙ ap (map value_of) (take-suc-set keys n k h) ∙ map-append value_of (take n keys) (k ∷ [])

pub length-values : (n : ℕ) (keys : List ℕ) → n ≤ length keys → length (values n keys) ≡ n
unfolding values
length-values n keys le = length-map (take n keys) value_of ∙ length-take-le n keys le

pub value-at : (n p : ℕ) (keys : List ℕ) → p < n → n ≤ length keys → get_or (values n keys) p (pos 0) ≡ value_of (get_or keys p 0)
unfolding values
value-at n p keys lt le = at (take n keys) p (omega (arith, length-take-le n keys le)) ∙ ap value_of (get_or-take n keys p 0 lt) where
  at : (ks : List ℕ) (p : ℕ) → p < length ks → get_or (map value_of ks) p (pos 0) ≡ value_of (get_or ks p 0)
  at [] p h = absurd (omega arith)
  at (k ∷ ks) zero h = refl
  at (k ∷ ks) (suc p) h = at ks p (omega arith)

-- ---- how many values are probed
pub probe_few : (ps : List ℤ) (prop first end : ℕ) → length (probe_of ps prop first end) ≤ 2047
unfolding probe_of
probe_few ps prop first end = rw (sym (length-column ps prop first end)) (column-few (column ps prop first end))

pub probe_fewer : (ps : List ℤ) (prop first end : ℕ) → length (probe_of ps prop first end) ≤ end - first
unfolding probe_of
probe_fewer ps prop first end = omega (arith, every-fewer (stride (end - first)) 0 (column ps prop first end), length-column ps prop first end)

-- ---- the loop: the values so far, and those to come, are all
module _ (ps : List ℤ) (prop first row end step n : ℕ) (keys : List ℕ) (strides : step ≡ stride (end - first)) (le : n ≤ length keys)
    (all : values n keys ++ every step 0 (column ps prop row end) ≡ probe_of ps prop first end) where
  steps : 0 < step
  steps = rw strides (stride-some (end - first))

  size : n + length (every step 0 (column ps prop row end)) ≡ length (probe_of ps prop first end)
  size = omega (arith, length-append (values n keys) (every step 0 (column ps prop row end)), length-values n keys le, ap length all)

  -- one more value is to come
  pub probe_room : row < end → n < length (probe_of ps prop first end)
  probe_room h = omega (arith, size, ap length (probe_more ps prop step row end steps h))

  pub probe_turn : (k : ℕ) → row < end → n < length keys → value_of k ≡ get_or ps (row * 24 + prop) (pos 0)
      → values (n + 1) (set keys n k) ++ every step 0 (column ps prop (row + step) end) ≡ probe_of ps prop first end
  probe_turn k h room v =
      ap (λ (l : List ℤ). l ++ every step 0 (column ps prop (row + step) end)) (values-more n k keys room)
      ∙ append_assoc (values n keys) (value_of k ∷ []) (every step 0 (column ps prop (row + step) end))
      ∙ ap (λ (l : List ℤ). values n keys ++ l) (ap (λ (z : ℤ). z ∷ every step 0 (column ps prop (row + step) end)) v ∙ sym (probe_more ps prop step row end steps h))
      ∙ all

  pub probe_end : end ≤ row → (values n keys ≡ probe_of ps prop first end) × (n ≡ length (probe_of ps prop first end))
  probe_end h =
      let whole : values n keys ≡ probe_of ps prop first end = sym (append-nil (values n keys)) ∙ ap (λ (l : List ℤ). values n keys ++ l) (sym (probe_none ps prop step row end h)) ∙ all in
      (whole, sym (length-values n keys le) ∙ ap length whole)

pub probe_start : (ps : List ℤ) (prop first end step : ℕ) (keys : List ℕ) → step ≡ stride (end - first) → values 0 keys ++ every step 0 (column ps prop first end) ≡ probe_of ps prop first end
unfolding values probe_of
probe_start ps prop first end step keys e = rw e

-- as many steps as cover all rows: each begins at one of them
module _ (rows step n : ℕ) (some : 0 < step) (count : n ≡ div_ceil rows step) where
  times : (rows ≤ n * step) × (n * step < rows + step)
  times = rw count (div_ceil_times rows step some)

  pub probe_begins : (i : ℕ) → i < n → i * step < rows
  probe_begins i h = omega (arith, times, mul-le-mul_right {m = suc i} {n = n} step h, suc-mul i step)

  pub probe_over : rows ≤ n * step
  probe_over = times.0
