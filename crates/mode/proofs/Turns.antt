-- A loop's turn over a span: what is left of the residuals, and which tokens are made. Assumes nothing.
use mathlib.Core.Path.{◌≡◌}
use mathlib.Core.List.{List, [], ◌∷◌}
use Prim.Native.Nat.{ℕ, ◌+◌, ◌*◌, ◌≤◌, ◌<◌}
use native.Mathlib.Decide.{dec_le}
use native.Mathlib.Numerals.{add-one}
use native.Mathlib.Omega.{arith}
use lib.IntN.{ℤ, pos}
use lib.ListN.{length, get_or, set, drop, drop_of_length-le}
use lib.Seq.{drop-cons, get_or-set_same, get_or-set_other}
use Rattle.mode.specs.Lent.{LowTokens}

pub left-more : (l : List ℤ) (i : ℕ) → i < length l → drop i l ≡ get_or l i (pos 0) ∷ drop (i + 1) l
left-more l i h = rw add-one (drop-cons l i (pos 0) h)

pub left-done : (l : List ℤ) (i : ℕ) → length l ≤ i → drop i l ≡ []
left-done l i h = drop_of_length-le l h

-- one more zero token is made
pub low-more : (first i t : ℕ) (tok : List ℕ) → i * 14 < length tok → t < 128 → LowTokens first i tok → LowTokens first (i + 1) (set tok (i * 14) t)
low-more first i t tok room low before k from below = go (dec_le (k + 1) i) where
  go : Dec (k + 1 ≤ i) → get_or (set tok (i * 14) t) (k * 14) 0 < 128
  go (yes h) = rw (get_or-set_other tok (i * 14) (k * 14) t 0 (λ e. absurd (omega arith))) (before k from (omega arith))
  go (no h) = let e : k ≡ i = omega arith in rw (e, get_or-set_same tok (i * 14) t 0 room) low
