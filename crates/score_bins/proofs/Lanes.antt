-- Cells of windows that stand one after the other: a row hits one cell of each. Assumes nothing.
use mathlib.Core.Path.{◌≡◌, refl, sym, ap, ◌∙◌}
use mathlib.Core.Bool.{Bool, true, false, cond, ◌&&◌}
use mathlib.Core.List.{List, [], ◌∷◌}
use Prim.Native.Nat.{ℕ, zero, suc, ◌+◌, ◌-◌, ◌*◌, ◌≤◌, ◌<◌}
use native.Mathlib.Decide.{ℕ_discrete, dec_lt}
use native.Mathlib.Omega.{arith}
use borrow.Author.Tests.{eq-eqb, ne_eqb, eqb-true, eqb-false}
use lib.Dec.{eqb}
use lib.ListN.{length, get_or}
use Rattle.model.specs.Lists.{count_if}
use Rattle.cost.proofs.Blocks.{part_end}
use Rattle.score_bins.proofs.Tallies.{count_to, sum_to}

-- a test that only j can pass
count_to_none : (q : ℕ → Bool) (n : ℕ) → ((i : ℕ) → i < n → q i ≡ false) → count_to q n ≡ 0
unfolding count_to
count_to_none q zero h = refl
count_to_none q (suc n) h = rw (h n (omega arith)) (omega (arith, count_to_none q n (λ i l. h i (omega arith))))

count_to_one : (q : ℕ → Bool) (n j : ℕ) → j < n → ((i : ℕ) → i < n → (i ≡ j → ⊥) → q i ≡ false) → count_to q n ≡ cond (q j) 1 0
unfolding count_to
count_to_one q zero j l h = absurd (omega arith)
count_to_one q (suc n) j l h = go (ℕ_discrete j n) (λ k. count_to_one q n j k (λ i a b. h i (omega arith) b))
  where
    go : Dec (j ≡ n) → (j < n → count_to q n ≡ cond (q j) 1 0) → ◌≡◌ {A = ℕ} (count_to q n + cond (q n) 1 0) (cond (q j) 1 0)
    go (yes e) ih =
        let before = count_to_none q n (λ i a. h i (omega arith) (λ s. omega arith)) in
        let same : ◌≡◌ {A = ℕ} (cond (q n) 1 0) (cond (q j) 1 0) = ap (λ (k : ℕ). cond (q k) 1 0) (sym e) in
        omega arith
    go (no ne) ih =
        let earlier = ih (omega arith) in
        let not : ◌≡◌ {A = ℕ} (cond (q n) 1 0) 0 = ap (λ (b : Bool). cond b 1 0) (h n (omega arith) (λ s. ne (sym s))) in
        omega arith

-- ---- windows one after the other, in bins of one stride

module _ (lanes stride : ℕ) (off width : ℕ → ℕ) (next : (j : ℕ) → suc j < lanes → off j + width j ≤ off (suc j))
    (last : (j : ℕ) → suc j ≡ lanes → off j + width j ≤ stride) where
  ordered : (i d : ℕ) → suc (i + d) < lanes → off i + width i ≤ off (suc (i + d))
  ordered i zero h = let e : i + 0 ≡ i = omega arith in rw e (next i (omega arith))
  ordered i (suc d) h =
      let ih = ordered i d (omega arith) in
      let e : suc (i + d) ≡ i + suc d = omega arith in
      let n = next (i + suc d) h in
      let s : off (suc (i + d)) ≡ off (i + suc d) = ap off e in
      omega arith

  before : (i j : ℕ) → i < j → j < lanes → off i + width i ≤ off j
  before i j h l =
      let e : suc (i + (j - suc i)) ≡ j = omega arith in
      let o = ordered i (j - suc i) (omega arith) in
      let s : off (suc (i + (j - suc i))) ≡ off j = ap off e in
      omega arith

  -- each lies within the bin
  pub lane-ends : (j : ℕ) → j < lanes → off j + width j ≤ stride
  lane-ends j l = elim (dec_lt (suc j) lanes) [
    | yes m ↦ (
        let k = lanes - 1 in
        omega (arith, before j k (omega arith) (omega arith), last k (omega arith))
        )
    | no m ↦ last j (omega arith)
  ]

  pub lane-within : (j x : ℕ) → j < lanes → x < width j → off j + x < stride
  lane-within j x l h = omega (arith, lane-ends j l)

  -- a place of a window is no place of another
  apart : (i j x y : ℕ) → i < lanes → j < lanes → x < width i → y < width j → (i ≡ j → ⊥) → off i + x ≡ off j + y → ⊥
  apart i j x y li lj hx hy ne e = elim (dec_lt i j) [
    | yes l ↦ (let b = before i j l lj in omega arith)
    | no l ↦ (let b = before j i (omega arith) li in omega arith)
  ]

  -- places of different bins differ
  bins_apart : (a b x y : ℕ) → x < stride → y < stride → (a ≡ b → ⊥) → a * stride + x ≡ b * stride + y → ⊥
  bins_apart a b x y hx hy ne e = elim (dec_lt a b) [
    | yes l ↦ (let m = part_end a b stride l in omega arith)
    | no l ↦ (let m = part_end b a stride (omega arith) in omega arith)
  ]

  -- of a row's cells, which are y i in window i of bin a, the one in window j alone can be cell x of window j of bin b
  pub bin-hits : (y : ℕ → ℕ) (a b j x : ℕ) → ((i : ℕ) → i < lanes → y i < width i) → j < lanes → x < width j
      → count_to (λ (i : ℕ). eqb (a * stride + off i + y i) (b * stride + (off j + x))) lanes ≡ cond (eqb a b && eqb (y j) x) 1 0
  bin-hits y a b j x h l hx = go (eqb a b) refl
    where
      go : (t : Bool) → eqb a b ≡ t → count_to (λ (i : ℕ). eqb (a * stride + off i + y i) (b * stride + (off j + x))) lanes ≡ cond (t && eqb (y j) x) 1 0
      go true e =
          let same = eqb-true a b e in
          let bases : a * stride ≡ b * stride = ap (λ (k : ℕ). k * stride) same in
          count_to_one (λ (i : ℕ). eqb (a * stride + off i + y i) (b * stride + (off j + x))) lanes j l
          (λ i k ne. ne_eqb (a * stride + off i + y i) (b * stride + (off j + x)) (λ s. apart i j (y i) x k l (h i k) hx ne (omega arith)))
          ∙ ap (λ (b : Bool). cond b 1 0) (at (eqb (y j) x) refl bases)
        where
          at : (t : Bool) → eqb (y j) x ≡ t → a * stride ≡ b * stride → eqb (a * stride + off j + y j) (b * stride + (off j + x)) ≡ t
          at true e r = let s = eqb-true (y j) x e in eq-eqb (a * stride + off j + y j) (b * stride + (off j + x)) (omega arith)
          at false e r = ne_eqb (a * stride + off j + y j) (b * stride + (off j + x)) (λ s. eqb-false (y j) x e (omega arith))
      go false e =
          let differ = eqb-false a b e in
          count_to_none (λ (i : ℕ). eqb (a * stride + off i + y i) (b * stride + (off j + x))) lanes
          (λ i k. ne_eqb (a * stride + off i + y i) (b * stride + (off j + x))
          (λ s. bins_apart a b (off i + y i) (off j + x) (lane-within i (y i) k (h i k)) (lane-within j x l hx) differ (omega arith)))

-- ---- a sum over the rows of a list is a count of them

module _ {A : Type 0} (q : A → Bool) (d : A) where
  sum_to_shift : (f : ℕ → ℕ) (n : ℕ) → sum_to f (suc n) ≡ f 0 + sum_to (λ (k : ℕ). f (suc k)) n
  unfolding sum_to
  sum_to_shift f zero = omega arith
  sum_to_shift f (suc n) = omega (arith, sum_to_shift f n)

  pub sum_rows : (rows : List A) (f : ℕ → ℕ) → ((k : ℕ) → k < length rows → f k ≡ cond (q (get_or rows k d)) 1 0) → sum_to f (length rows) ≡ count_if q rows
  unfolding sum_to
  sum_rows [] f h = refl
  sum_rows (r ∷ rs) f h =
      let ih = sum_rows rs (λ (k : ℕ). f (suc k)) (λ k l. h (suc k) (omega arith)) in
      let own = h 0 (omega arith) in
      omega (arith, sum_to_shift f (length rs))

  -- a test that some row passes
  pub count-some : (rows : List A) (k : ℕ) → k < length rows → q (get_or rows k d) ≡ true → 0 < count_if q rows
  count-some [] k h e = absurd (omega arith)
  count-some (r ∷ rs) zero h e = rw e (omega arith)
  count-some (r ∷ rs) (suc k) h e = omega (arith, count-some rs k (omega arith) e)
