-- What a check that did not refuse says in numbers, where a later check needs it; and tests that the code writes in another way than the model.
-- Assumes nothing.
use mathlib.Core.Path.{◌≡◌, refl, sym, ◌∙◌}
use mathlib.Core.Bool.{false, not, ◌&&◌, and_assoc}
use mathlib.Core.List.{List, [], ◌∷◌}
use Prim.Native.Nat.{ℕ, ◌+◌, ◌-◌, ◌*◌, ◌/◌, ◌≤◌, max}
use native.Mathlib.Nat.{mul-le-mul}
use native.Mathlib.Decide.{dec_lt}
use native.Mathlib.Omega.{arith}
use borrow.Author.Tests.{lt-ltb, le-ltb}
use lib.ListN.{length}
use lib.Dec.{ltb, eqb→eq}
use Rattle.model.specs.Lists.{is_empty}
use Rattle.model.specs.Settings.{Settings}
use Rattle.model.specs.Meter.{Meter}
use Rattle.model.specs.Lent.{Lent, row_count}
use Rattle.model.specs.Refuse.{is_uneven, is_short_alphabet}
use Rattle.model.proofs.Tests.{holds, neither, not-below}
use Rattle.refuse.specs.Given.{WholeRows}

-- 7: the largest of the products that the count space asks for
pub scored-small : (s a c : ℕ) → s ≤ 14 → a ≤ 256 → c ≤ 32 → max s 1 * a * (c + 2) ≤ 14 * 256 * 34
scored-small s a c p q r =
    let u : max s 1 ≤ 14 = omega arith in
    let v : c + 2 ≤ 34 = omega arith in
    mul-le-mul (mul-le-mul u q) v

-- 3: the tokens are those of whole rows, as many as the properties have
pub whole-rows : {M : Meter} (x : Lent M) → is_uneven x ≡ false → WholeRows (length x.toks) × (length x.toks / 14 ≡ row_count x)
unfolding is_uneven
whole-rows x e =
    let h = simp (neither, holds, not-below) at e in
    (record { whole = omega (arith, eqb→eq); few = omega (arith, eqb→eq) }, omega (arith, eqb→eq))

-- 5: residuals are given where there is one
pub given : {A : Type 0} (xs : List A) → not (is_empty xs) ≡ ltb 0 (length xs)
given [] = refl
given (x ∷ xs) = sym (lt-ltb 0 (length (x ∷ xs)) (omega arith))

pub short-alphabet : {M : Meter} (t : Settings M) (x : Lent M) (rows res : ℕ) → row_count x ≡ rows → length x.res ≡ res
    → (t.modal && ltb 0 res && ltb 0 rows && ltb t.alphabet 128) ≡ is_short_alphabet t x
unfolding is_short_alphabet
short-alphabet t x rows res h k = rw (given x.res, h, k) (and_assoc (t.modal && ltb 0 res) _ _ ∙ and_assoc t.modal _ _)

-- 7 of deepening: the sum rows + 2 × count is above a number where half of what the rows leave of it is below the count
pub seed-sum : (counts rows count : ℕ) → rows ≤ counts → ltb ((counts - rows) / 2) count ≡ ltb counts (rows + 2 * count)
seed-sum counts rows count h =
    elim (dec_lt counts (rows + 2 * count)) [
      | yes l ↦ rw (lt-ltb ((counts - rows) / 2) count (omega arith), lt-ltb counts (rows + 2 * count) l)
      | no l ↦ rw (le-ltb ((counts - rows) / 2) count (omega arith), le-ltb counts (rows + 2 * count) (omega arith))
    ]
