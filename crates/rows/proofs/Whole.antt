-- The rows that shaped lists hold determine the lists. Assumes nothing.
use mathlib.Core.Path.{◌≡◌, refl, sym, ap, ◌∙◌}
use mathlib.Core.Bool.{Bool, not, cond}
use mathlib.Core.List.{List, [], ◌∷◌}
use Prim.Native.Nat.{ℕ, zero, suc, ◌*◌, ◌<◌}
use native.Mathlib.Omega.{arith}
use lib.ListN.{length, drop, take-append-drop, length-drop}
use lib.IntN.{ℤ}
use Rattle.model.specs.Lists.{is_empty}
use Rattle.model.specs.Rows.{Row, rows_of, props_of, toks_of, res_of}
use Rattle.rows.specs.Flat.{Flat, flat_of, has_residuals, held_in, row_count, Shaped, Changed}
use Rattle.rows.proofs.Shapes.{shaped_still, residuals_still}

none : {A : Type 0} (l : List A) → length l ≡ 0 → [] ≡ l
none [] e = refl
none (x ∷ l) e = absurd (omega arith)

-- ---- n rows, list by list
all-props : (n : ℕ) (ps : List ℤ) (ts : List ℕ) (rs : List ℤ) → length ps ≡ n * 24 → props_of (rows_of n ps ts rs) ≡ ps
all-props zero ps ts rs e = none ps e
all-props (suc n) ps ts rs e = rw (all-props n (drop 24 ps) (drop 14 ts) (drop 1 rs) (simp length-drop (omega arith))) (take-append-drop 24 ps)

all-toks : (n : ℕ) (ps : List ℤ) (ts : List ℕ) (rs : List ℤ) → length ts ≡ n * 14 → toks_of (rows_of n ps ts rs) ≡ ts
all-toks zero ps ts rs e = none ts e
all-toks (suc n) ps ts rs e = rw (all-toks n (drop 24 ps) (drop 14 ts) (drop 1 rs) (simp length-drop (omega arith))) (take-append-drop 14 ts)

all-res : (n : ℕ) (ps : List ℤ) (ts : List ℕ) (rs : List ℤ) → length rs ≡ n → res_of (rows_of n ps ts rs) ≡ rs
all-res zero ps ts rs e = none rs e
all-res (suc n) ps ts [] e = absurd (omega arith)
all-res (suc n) ps ts (z ∷ rs) e = ap (λ (l : List ℤ). z ∷ l) (all-res n (drop 24 ps) (drop 14 ts) rs (omega arith))

-- ---- all lists
pub flat-held : (x : Flat) → Shaped x → flat_of (has_residuals x) (held_in x) ≡ x
flat-held x s = λ i. record {
  props = all-props (row_count x) x.props x.toks x.res s.props i;
  toks = all-toks (row_count x) x.props x.toks x.res s.toks i;
  res = residuals x.res s.res i;
} where
  residuals : (rs : List ℤ) → (0 < length rs → length rs ≡ row_count x)
      → cond (not (is_empty rs)) (res_of (rows_of (row_count x) x.props x.toks rs)) [] ≡ rs
  residuals [] one = refl
  residuals (z ∷ rs) one = all-res (row_count x) x.props x.toks (z ∷ rs) (one (omega arith))

-- what an operation leaves, list by list
pub flat-changed : {f : List Row → List Row} {x y : Flat} → Shaped x → Changed f x y → y ≡ flat_of (has_residuals x) (f (held_in x))
flat-changed {f = f} {x = x} {y = y} s c =
    sym (flat-held y (shaped_still c.size s)) ∙ ap (flat_of (has_residuals y)) c.rows ∙ ap (λ (b : Bool). flat_of b (f (held_in x))) (residuals_still c.size)
