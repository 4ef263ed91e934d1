-- Whole numbers above another: as it and a natural number. Assumes nothing.
use mathlib.Core.Path.{◌≡◌, refl, sym, ap, ◌∙◌}
use mathlib.Core.Bool.{true, false, true≢false}
use Prim.Native.Nat.{ℕ, zero, suc, ◌+◌, ◌-◌, ◌≤◌, ◌<◌}
use native.Mathlib.Decide.{ℕ_discrete, dec_lt}
use native.Mathlib.Omega.{arith}
use borrow.Author.Tests.{ltb-true, ltb-false, lt-ltb, le-ltb, eq-eqb, ne_eqb}
use lib.Dec.{eqb}
use lib.IntN.{ℤ, pos, negsuc, neg_ℤ, ◌+ℤ◌, ◌-ℤ◌, nat_abs, +ℤ_idr, +ℤ_assoc, +ℤ_comm, +ℤ-neg_ℤ_cancel, neg_ℤ-+ℤ}
use lib.Signed.{lt_z, mag}
use Rattle.model.specs.Lists.{eq_z}
use Rattle.model.proofs.Tests.{eq_z-same, eq_z-other}

-- v is low or above it
pub record Above (low v : ℤ) : Type 0 where
  pub at : ℕ
  pub value : v ≡ low +ℤ pos at

pub above_same : (v : ℤ) → Above v v
above_same v = record { at = 0; value = sym (+ℤ_idr v) }

abbrev pub above_trans : {a b c : ℤ} → Above a b → Above b c → Above a c
above_trans {a} p q =
    record { at = p.at + q.at; value = q.value ∙ ap (λ (z : ℤ). z +ℤ pos q.at) p.value ∙ +ℤ_assoc a (pos p.at) (pos q.at) }

-- what is not below is above
pub not-below : (v low : ℤ) → lt_z v low ≡ false → Above low v
not-below (pos a) (pos b) e = let le = ltb-false a b e in record { at = a - b; value = ap pos (omega arith) }
not-below (pos a) (negsuc b) e = record { at = a + suc b; value = rw (le-ltb (a + suc b) (suc b) (omega arith)) (ap pos (omega arith)) }
not-below (negsuc a) (pos b) e = absurd (true≢false e)
not-below (negsuc a) (negsuc b) e = let le = ltb-false b a e in record { at = b - a; value = rw (lt-ltb (b - a) (suc b) (omega arith)) (ap negsuc (omega arith)) }

pub below : (low v : ℤ) → lt_z low v ≡ true → Above low v
below low v e = not-below v low (go low v e)
  where
    go : (a b : ℤ) → lt_z a b ≡ true → lt_z b a ≡ false
    go (pos a) (pos b) e = let lt = ltb-true a b e in le-ltb b a (omega arith)
    go (pos a) (negsuc b) e = sym e
    go (negsuc a) (pos b) e = refl
    go (negsuc a) (negsuc b) e = let lt = ltb-true b a e in le-ltb a b (omega arith)

-- (low + k) - low is k
pub above-less : (low : ℤ) (k : ℕ) → (low +ℤ pos k) -ℤ low ≡ pos k
above-less low k = ap (λ (z : ℤ). z -ℤ low) (+ℤ_comm low (pos k)) ∙ +ℤ-neg_ℤ_cancel (pos k) low

pub above_at : {low v : ℤ} (p : Above low v) → v -ℤ low ≡ pos p.at
above_at {low} p = ap (λ (z : ℤ). z -ℤ low) p.value ∙ above-less low p.at

-- (low + j) - (low + k) is j - k
pub above-both : (low : ℤ) (j k : ℕ) → (low +ℤ pos j) -ℤ (low +ℤ pos k) ≡ pos j -ℤ pos k
above-both low j k =
    ap (λ (z : ℤ). (low +ℤ pos j) +ℤ z) (neg_ℤ-+ℤ low (pos k))
    ∙ sym (+ℤ_assoc (low +ℤ pos j) (neg_ℤ low) (neg_ℤ (pos k)))
    ∙ ap (λ (z : ℤ). z -ℤ pos k) (above-less low j)

-- two naturals below n differ by less
pub mag_less : (j k n : ℕ) → j < n → k < n → mag (pos j -ℤ pos k) < n
mag_less j zero n h g = omega arith
mag_less j (suc k) n h g = go (dec_lt j (suc k))
  where
    go : Dec (j < suc k) → mag (pos j -ℤ pos (suc k)) < n
    go (yes lt) = rw (lt-ltb j (suc k) lt) (omega arith)
    go (no le) = rw (le-ltb j (suc k) (omega arith)) (omega arith)

-- equal where their places are
pub eq_z-above : (low : ℤ) (j k : ℕ) → eq_z (low +ℤ pos j) (low +ℤ pos k) ≡ eqb j k
eq_z-above low j k = go (ℕ_discrete j k)
  where
    go : Dec (j ≡ k) → eq_z (low +ℤ pos j) (low +ℤ pos k) ≡ eqb j k
    go (yes e) = rw (e, eq_z-same (low +ℤ pos k), eq-eqb k k refl)
    go (no ne) =
        eq_z-other (low +ℤ pos j) (low +ℤ pos k) (λ e. ne (ap nat_abs (sym (above-less low j) ∙ ap (λ (z : ℤ). z -ℤ low) e ∙ above-less low k)))
        ∙ sym (ne_eqb j k ne)

-- a number between two that are held by the same bits
pub fits-between : (low : ℤ) (j k n : ℕ) → j ≤ k → mag low < n → mag (low +ℤ pos k) < n → mag (low +ℤ pos j) < n
fits-between (pos a) j k n le h g = omega arith
fits-between (negsuc a) j k n le h g = go (dec_lt j (suc a))
  where
    go : Dec (j < suc a) → mag (negsuc a +ℤ pos j) < n
    go (yes lt) = rw (lt-ltb j (suc a) lt) (omega arith)
    go (no ge) = rw (le-ltb j (suc a) (omega arith)) (let up = rw (le-ltb k (suc a) (omega arith)) at g in omega arith)

-- how far apart two such numbers are
pub reach : (low : ℤ) (k n : ℕ) → mag low < n → mag (low +ℤ pos k) < n → k < n + n
reach (pos a) k n h g = omega arith
reach (negsuc a) k n h g = go (dec_lt k (suc a))
  where
    go : Dec (k < suc a) → k < n + n
    go (yes lt) = omega arith
    go (no ge) = let up = rw (le-ltb k (suc a) (omega arith)) at g in omega arith
