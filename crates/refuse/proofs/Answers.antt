-- What an answer of the code says of the model's: each of the two is read off the other. Assumes nothing.
use mathlib.Core.Path.{◌≡◌, refl, sym, ap, ◌∙◌}
use mathlib.Core.Bool.{Bool, not, not-not}
use mathlib.Core.Option as maybe
use mathlib.Core.Option.{or_else}
use Prim.Native.Nat.{ℕ}
use native.Mathlib.Omega.{arith}
use Rattle.model.specs.Refuse.{Refusal}
use Rattle.model.specs.Operations.{refused, accepted, outcome_of}
use Rattle.std.specs.Prelude.{Some, None}
use Rattle.refuse.specs.Given.{found_of}

-- what a test of a call's result says of the condition b that the result denies
pub tested : (b : Bool) {r v : Bool} → r ≡ not b → not r ≡ v → b ≡ v
tested b e f = sym (not-not b) ∙ ap not (sym e) ∙ f

-- and where the code asks the result itself
pub told : (b : Bool) {r v : Bool} → r ≡ not b → r ≡ v → b ≡ not v
told b e f = tested b e (ap not f)

-- ---- the search for a row
pub row-found : (o : maybe.Option ℕ) (p : ℕ) → found_of o ≡ Some p → o ≡ maybe.some p
row-found maybe.none p e = let z : ◌≡◌ {A = ℕ} 0 1 = cc in absurd (omega arith)
row-found (maybe.some q) p e = let s : q ≡ p = cc in ap maybe.some s

pub nothing-found : (o : maybe.Option ℕ) → found_of o ≡ None → o ≡ maybe.none
nothing-found maybe.none e = refl
nothing-found (maybe.some q) e = let z : ◌≡◌ {A = ℕ} 0 1 = cc in absurd (omega arith)

-- ---- a pass and a refusal
pub pass_is : (o : maybe.Option Refusal) (rows n : ℕ) → accepted n ≡ outcome_of o rows → (o ≡ maybe.none) × (n ≡ rows)
pass_is maybe.none rows n e = (refl, cc)
pass_is (maybe.some r) rows n e = let z : ◌≡◌ {A = ℕ} 0 1 = cc in absurd (omega arith)

pub refused-is : (o : maybe.Option Refusal) (rows : ℕ) (r : Refusal) → refused r ≡ outcome_of o rows → o ≡ maybe.some r
refused-is maybe.none rows r e = let z : ◌≡◌ {A = ℕ} 0 1 = cc in absurd (omega arith)
refused-is (maybe.some q) rows r e = let s : q ≡ r = cc in ap maybe.some s

-- what is asked after the others: a refusal before it stays, and a pass leaves the answer to it
pub still-refused : (o last : maybe.Option Refusal) (rows : ℕ) (r : Refusal) → refused r ≡ outcome_of o rows → refused r ≡ outcome_of (or_else o last) rows
unfolding or_else
still-refused o last rows r e = rw (refused-is o rows r e)

pub left-to : (o last : maybe.Option Refusal) (rows n : ℕ) → accepted n ≡ outcome_of o rows → (outcome_of (or_else o last) rows ≡ outcome_of last rows) × (rows ≡ n)
unfolding or_else
left-to o last rows n e = let h = pass_is o rows n e in (rw h.0, sym h.1)
