-- The count space: zero in each part, wide enough for flags and bins, and as before once its parts are. Assumes nothing.
use mathlib.Core.Path.{◌≡◌, refl, sym, ap, ◌∙◌}
use mathlib.Core.List.{List, ◌∷◌, ◌++◌}
use Prim.Native.Nat.{ℕ, zero, suc, ◌+◌, ◌-◌, ◌*◌, ◌≤◌}
use native.Mathlib.Nat.{mul-le-mul_left, mul-le-mul_right, le_trans}
use native.Mathlib.Omega.{arith}
use lib.ListN.{length, get_or, take, drop, replicate, length-take, length-drop, get_or-replicate, take-append-drop}
use lib.Seq.{get_or-take}
use Rattle.distinct.specs.Marks.{Blank}
use Rattle.score.specs.Scored.{Spare}

pub take-zeros : (n m : ℕ) → n ≤ m → ◌≡◌ {A = List ℕ} (take n (replicate m 0)) (replicate n 0)
take-zeros zero m h = refl
take-zeros (suc n) zero h = absurd (omega arith)
take-zeros (suc n) (suc m) h = ap (λ (l : List ℕ). 0 ∷ l) (take-zeros n m (omega arith))

drop-zeros : (n m : ℕ) → ◌≡◌ {A = List ℕ} (drop n (replicate m 0)) (replicate (m - n) 0)
drop-zeros zero m = let e : m ≡ m - 0 = omega arith in ap (λ (k : ℕ). replicate {A = ℕ} k 0) e
drop-zeros (suc n) zero = let e : 0 - suc n ≡ 0 = omega arith in rw e
drop-zeros (suc n) (suc m) = let e : m - n ≡ suc m - suc n = omega arith in drop-zeros n m ∙ ap (λ (k : ℕ). replicate {A = ℕ} k 0) e

-- a part that is lent and comes back as it was
pub front-back : (n : ℕ) (cells part : List ℕ) → part ≡ take n cells → part ++ drop n cells ≡ cells
front-back n cells part e = ap (λ (l : List ℕ). l ++ drop n cells) e ∙ take-append-drop n cells

module _ (cells : List ℕ) (zeros : cells ≡ replicate (length cells) 0) where
  -- the flags
  pub blank-front : 4096 ≤ length cells → Blank (take 4096 cells)
  blank-front h =
      record {
        long = omega (arith, length-take 4096 cells);
        zeros = λ i l.
            get_or-take 4096 cells i 0 l ∙ ap (λ (c : List ℕ). get_or c i 0) zeros ∙ get_or-replicate (length cells) i 0 0 (omega arith);
      }

  -- the bins
  pub spare-back : (base s alphabet c : ℕ) → s * alphabet * (c + 2) ≤ length cells - base → Spare s alphabet c (drop base cells)
  spare-back base s alphabet c h =
      record {
        long = omega (arith, length-drop base cells);
        zeros = ap (drop base) zeros ∙ drop-zeros base (length cells) ∙ ap (λ (k : ℕ). replicate {A = ℕ} k 0) (sym (length-drop base cells));
      }

-- s side predictors and c candidates, of those that the settings allow
pub bins_fit : (s sides a c most : ℕ) → s ≤ sides → c ≤ most → s * a * (c + 2) ≤ sides * a * (most + 2)
bins_fit s sides a c most h k =
    let wide : c + 2 ≤ most + 2 = omega arith in
    le_trans (mul-le-mul_left (s * a) wide) (mul-le-mul_right (most + 2) (mul-le-mul_right a h))
