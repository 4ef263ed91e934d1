-- Numbers in decimal: the last digit stands after the text of the tenth, and how long a text is. Assumes nothing.
use mathlib.Core.Path.{◌≡◌}
use mathlib.Core.List.{[], ◌∷◌, ◌++◌}
use Prim.Native.Nat.{ℕ, zero, suc, ◌/◌, ◌%◌, ◌^◌, ◌≤◌, ◌<◌}
use native.Mathlib.Nat.{pow-suc}
use native.Mathlib.Decide.{dec_lt}
use native.Mathlib.Omega.{arith}
use borrow.Author.Tests.{lt-ltb, le-ltb}
use lib.ListN.{length, length-append}
use Rattle.listing.specs.Text.{digit, decimal_in, decimal}

-- more than n digits are enough
enough : (d e n : ℕ) → n < d → n < e → decimal_in d n ≡ decimal_in e n
unfolding decimal_in
enough zero e n h k = absurd (omega arith)
enough (suc d) zero n h k = absurd (omega arith)
enough (suc d) (suc e) n h k = go (enough d e (n / 10)) (dec_lt n 10)
  where
    go : (n / 10 < d → n / 10 < e → decimal_in d (n / 10) ≡ decimal_in e (n / 10)) → Dec (n < 10) → decimal_in (suc d) n ≡ decimal_in (suc e) n
    go tenth (yes small) = rw (lt-ltb n 10 small)
    go tenth (no large) = rw (le-ltb n 10 (omega arith), tenth (omega arith) (omega arith))

pub decimal-one : (n : ℕ) → n < 10 → decimal n ≡ digit n ∷ []
unfolding decimal decimal_in
decimal-one n h = rw (lt-ltb n 10 h)

pub decimal-more : (n : ℕ) → 10 ≤ n → decimal n ≡ decimal (n / 10) ++ (digit (n % 10) ∷ [])
unfolding decimal decimal_in
decimal-more n h = rw (le-ltb n 10 h, enough n (suc (n / 10)) (n / 10) (omega arith) (omega arith))

pub decimal-length : (d n : ℕ) → n < 10 ^ suc d → length (decimal n) ≤ suc d
decimal-length zero n h = rw (decimal-one n h) (omega arith)
decimal-length (suc d) n h = go (decimal-length d (n / 10)) (dec_lt n 10)
  where
    go : (n / 10 < 10 ^ suc d → length (decimal (n / 10)) ≤ suc d) → Dec (n < 10) → length (decimal n) ≤ suc (suc d)
    go tenth (yes small) = rw (decimal-one n small) (omega arith)
    go tenth (no large) =
        let rest = tenth (omega (arith, pow-suc 10 (suc d))) in
        rw (decimal-more n (omega arith), length-append (decimal (n / 10)) (digit (n % 10) ∷ [])) (omega arith)
