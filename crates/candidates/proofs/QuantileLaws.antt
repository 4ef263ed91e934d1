-- Values at even steps: which places they have. Assumes nothing.
use mathlib.Core.Path.{◌≡◌}
use mathlib.Core.List.{List}
use Prim.Native.Nat.{ℕ, suc, ◌*◌, ◌/◌, ◌≤◌, ◌<◌}
use native.Mathlib.Nat.{div-lt_iff_lt-mul, le-div_iff_mul-le, div-mul-le_self, mul-le-mul_right}
use native.Mathlib.Omega.{arith}
use lib.IntN.{ℤ, pos}
use lib.ListN.{length, get_or}
use Rattle.model.specs.Candidates.{quantiles}
use Rattle.model.proofs.Places.{length-each, each_at}

pub place_inside : (d n k : ℕ) → n ≤ d → k < n → k * d / n < d
place_inside d n k le lt =
    let room = mul-le-mul_right d lt in
    (div-lt_iff_lt-mul {k = n} {x = k * d} {y = d} (omega arith)).1 (omega arith)

pub place_rises : (d n j k : ℕ) → n ≤ d → j < k → k < n → j * d / n < k * d / n
place_rises d n j k le jk lt =
    let more = mul-le-mul_right d jk in
    (le-div_iff_mul-le {k = n} {x = suc (j * d / n)} {y = k * d} (omega arith)).1 (omega (arith, div-mul-le_self (j * d) n))

pub length-quantiles : (d n : ℕ) (vs : List ℤ) → length (quantiles d n vs) ≡ n
unfolding quantiles
length-quantiles d n vs = length-each (λ (k : ℕ). get_or vs (k * d / n) (pos 0)) 0 n

pub quantile-at : (d n : ℕ) (vs : List ℤ) (k : ℕ) → k < n → get_or (quantiles d n vs) k (pos 0) ≡ get_or vs (k * d / n) (pos 0)
unfolding quantiles
quantile-at d n vs k h = each_at (λ (j : ℕ). get_or vs (j * d / n) (pos 0)) n k (pos 0) h

-- candidate k
abbrev pub quantile : ℕ → ℕ → List ℤ → ℕ → ℤ
quantile d n vs k = get_or vs (k * d / n) (pos 0)

pub place-within : (d n k : ℕ) → k < n → k * d / n ≤ d
place-within d n k lt =
    let room = mul-le-mul_right d lt in
    let below : k * d / n < suc d = (div-lt_iff_lt-mul {k = n} {x = k * d} {y = suc d} (omega arith)).1 (omega arith) in
    omega arith
