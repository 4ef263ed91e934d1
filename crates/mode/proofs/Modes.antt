-- The mode, as it is found: by the counts above the lowest residual. Assumes nothing.
use mathlib.Core.Path.{◌≡◌, refl, sym, ap, ◌∙◌, subst}
use mathlib.Core.Logic.{inl, inr}
use mathlib.Core.Bool.{Bool, true, false, cond}
use mathlib.Core.List.Memᴰ
use mathlib.Core.List.{List, [], ◌∷◌, Memᴰ}
use Prim.Native.Nat.{ℕ, zero, suc, ◌+◌, ◌≤◌, ◌<◌}
use native.Mathlib.Decide.{dec_lt}
use native.Mathlib.Omega.{arith}
use borrow.Author.Tests.{lt-ltb, le-ltb}
use lib.Dec.{ltb}
use lib.IntN.{ℤ, pos, ◌+ℤ◌, ◌-ℤ◌, +ℤ_idr, +ℤ_one, +ℤ-suc_ℤ}
use lib.Signed.{mag}
use lib.ListN.{length, get_or, take}
use lib.Seq.{get_or-take}
use Rattle.model.specs.Lists.{count_if, eq_z}
use Rattle.model.specs.Mode.{lowest, oftenest, width, mode}
use Rattle.model.proofs.Fits32.{mode-is}
use Rattle.mode.specs.Each.{Each, Offset, Differs}
use Rattle.folds.specs.Counts.{tallied}
use Rattle.mode.specs.Counted.{max_width, offset_of}
use Rattle.mode.specs.Lent.{Clear}
use Rattle.folds.specs.First.{first_place, first_greatest}
use Rattle.mode.proofs.Above.{above-both, mag_less}
use Rattle.mode.proofs.Spread.{each_map, near}
use Rattle.mode.proofs.Tallies.{tallied-at}

-- of best and n places from i on, the first that is counted oftenest: as the search goes on from what it has found
best_from : List ℕ → ℕ → ℕ → ℕ → ℕ
best_from counts zero i best = best
best_from counts (suc n) i best = best_from counts n (suc i) (cond (ltb (get_or counts best 0) (get_or counts i 0)) i best)

abbrev pub first_best : List ℕ → ℕ → ℕ
first_best = first_greatest ltb 0

best-is : (counts : List ℕ) (n i m : ℕ) → m ≡ i + n → best_from counts n i (first_best counts i) ≡ first_best counts m
unfolding best_from first_place
best-is counts zero i m e = ap (first_best counts) (omega arith)
best-is counts (suc n) i m e = best-is counts n (suc i) m (omega arith)

-- ---- where place j has how often low + j occurs, the best place is that of the value that occurs oftenest
module _ (rs : List ℤ) (low : ℤ) (counts : List ℕ) where
  abbrev Holds : ℕ → Type 0
  Holds n = (j : ℕ) → j < n → get_or counts j 0 ≡ count_if (eq_z (low +ℤ pos j)) rs

  oftenest-from : (n i best : ℕ) → Holds (i + n) → oftenest rs n (low +ℤ pos i) (low +ℤ pos best) (get_or counts best 0) ≡ low +ℤ pos (best_from counts n i best)
  unfolding oftenest best_from
  oftenest-from zero i best h = refl
  oftenest-from (suc n) i best h =
      rw (← h i (omega arith), ← +ℤ-suc_ℤ low (pos i))
      (go (ltb (get_or counts best 0) (get_or counts i 0)) (λ best. oftenest-from n (suc i) best (λ j lt. h j (omega arith))))
    where
      go : (b : Bool) → ((best : ℕ) → oftenest rs n (low +ℤ pos (suc i)) (low +ℤ pos best) (get_or counts best 0) ≡ low +ℤ pos (best_from counts n (suc i) best))
          → oftenest rs n (low +ℤ pos (suc i)) (cond b (low +ℤ pos i) (low +ℤ pos best)) (cond b (get_or counts i 0) (get_or counts best 0))
          ≡ low +ℤ pos (best_from counts n (suc i) (cond b i best))
      go true ih = ih i
      go false ih = ih best

  oftenest-first : (n : ℕ) → Holds n → oftenest rs n low low 0 ≡ low +ℤ pos (first_best counts n)
  unfolding oftenest first_place
  oftenest-first zero h = sym (+ℤ_idr low)
  oftenest-first (suc n) h =
      (λ k. oftenest rs n (sym (+ℤ_one low) k) (start k) (most k))
      ∙ oftenest-from n 1 0 (λ j lt. h j (omega arith))
      ∙ ap (λ (best : ℕ). low +ℤ pos (best_from counts n 1 best)) (sym (either (ltb (get_or counts 0 0) (get_or counts 0 0)) 0))
      ∙ ap (λ (best : ℕ). low +ℤ pos best) (best-is counts n 1 (suc n) (omega arith))
    where
      either : {A : Type 0} (b : Bool) (x : A) → cond b x x ≡ x
      either true x = refl
      either false x = refl

      start : cond (ltb 0 (count_if (eq_z low) rs)) low low ≡ low +ℤ pos 0
      start = either (ltb 0 (count_if (eq_z low) rs)) low ∙ sym (+ℤ_idr low)

      itself : (times : ℕ) → cond (ltb 0 times) times 0 ≡ times
      itself zero = refl
      itself (suc times) = rw (lt-ltb 0 (suc times) (omega arith))

      most : cond (ltb 0 (count_if (eq_z low) rs)) (count_if (eq_z low) rs) 0 ≡ get_or counts 0 0
      most = itself (count_if (eq_z low) rs) ∙ ap (λ (z : ℤ). count_if (eq_z z) rs) (sym (+ℤ_idr low)) ∙ sym (h 0 (omega arith))

-- so the values that lie in a width above low, counted in a clear space, give the one that occurs oftenest
pub oftenest-counted : (low : ℤ) (width : ℕ) (vs : List ℤ) (counts : List ℕ) → Each (Offset low width) vs → width ≤ max_width → Clear counts
    → low +ℤ pos (first_best (take width (tallied (offset_of low) vs counts)) width) ≡ oftenest vs width low low 0
oftenest-counted low width vs counts near narrow clear =
    let long = clear.long in
    let counted = tallied (offset_of low) vs counts in
    sym (oftenest-first vs low (take width counted) width
    (λ j lt. omega (arith, get_or-take width counted j 0 lt, tallied-at low width vs counts near (omega arith) j, clear.zeros j (omega arith))))

-- ---- the mode of a span
pub mode-none : (rs : List ℤ) → length rs ≡ 0 → pos 0 ≡ mode rs
unfolding mode
mode-none [] e = refl
mode-none (r ∷ rs) e = absurd (omega arith)

module _ (r : ℤ) (rs : List ℤ) where
  pub mode_far : max_width < width r rs → mode (r ∷ rs) ≡ pos 0
  unfolding mode
  mode_far h = rw (mode, lt-ltb max_width (width r rs) h)

  pub mode-near : width r rs ≤ max_width → mode (r ∷ rs) ≡ oftenest (r ∷ rs) (width r rs) (lowest r rs) (lowest r rs) 0
  unfolding mode
  mode-near h = rw (mode, le-ltb max_width (width r rs) h)

-- ---- a residual less the mode

each_member : (P : ℤ → Type 0) {v : ℤ} (vs : List ℤ) → Each P vs → Memᴰ v vs → P v
each_member P [] h m = absurd (Memᴰ.not-nil m)
each_member P (w ∷ vs) h m = elim (Memᴰ.cases_cons m) [ inl e ↦ subst P (sym e) h.0 | inr k ↦ each_member P vs h.1 k ]

-- 32 bits hold each difference: it is the residual, or it is short
pub mode_differs : (vs : List ℤ) → Each (Differs (mode vs)) vs
mode_differs [] = tt
mode_differs (r ∷ rs) = go (dec_lt max_width (width r rs))
  where
    same : mode (r ∷ rs) ≡ pos 0 → Each (Differs (mode (r ∷ rs))) (r ∷ rs)
    same e =
        let zero_differs : Each (Differs (pos 0)) (r ∷ rs) = each_map (r ∷ rs) (λ v p. record { fits = λ f. rw (+ℤ_idr v) f }) (near r rs) in
        subst (λ (m : ℤ). Each (Differs m) (r ∷ rs)) (sym e) zero_differs

    short-of : width r rs ≤ max_width → (v : ℤ) → Offset (lowest r rs) (width r rs) v → Offset (lowest r rs) (width r rs) (mode (r ∷ rs)) → Differs (mode (r ∷ rs)) v
    short-of narrow v p q =
        let less = mag_less p.at q.at (width r rs) p.near q.near in
        let same : mag (v -ℤ mode (r ∷ rs)) ≡ mag (pos p.at -ℤ pos q.at) = (λ i. mag (p.value i -ℤ q.value i)) ∙ ap mag (above-both (lowest r rs) p.at q.at) in
        record { fits = λ f. omega (arith, same, less) }

    go : Dec (max_width < width r rs) → Each (Differs (mode (r ∷ rs))) (r ∷ rs)
    go (yes far) = same (mode_far r rs far)
    go (no narrow) =
        elim (mode-is (r ∷ rs)) [
          | inl e ↦ same e
          | inr m ↦ each_map (r ∷ rs) (λ v p. short-of (omega arith) v p (each_member (Offset (lowest r rs) (width r rs)) (r ∷ rs) (near r rs) m)) (near r rs)
        ]
