-- Tests of the checks, read as facts: what a test that passed or failed says, and what is left where nothing was refused. Assumes nothing.
use mathlib.Core.Path.{◌≡◌, refl, sym, ap}
use mathlib.Core.Logic.{◌↔◌, ◌⊎◌, inl, inr}
use Prim.Native.Nat.{ℕ, ◌≤◌}
use native.Mathlib.Omega.{arith}
use mathlib.Core.Bool.{Bool, true, false, not, cond, ◌&&◌, ◌||◌, true≢false}
use mathlib.Core.Option.{Option, none, some}
use lib.Dec.{T, ltb, eqb→eq}
use lib.IntN.{ℤ, pos, negsuc}
use Rattle.model.specs.Lists.{eq_z}
use Rattle.model.specs.Refuse.{Refusal, refuse_if, refuse_at, refuse_with}
use Rattle.model.proofs.Paths.{eqb_same}
use Rattle.model.proofs.Invariant.{none_is_no_some}

pub and_both : (a b : Bool) → T (a && b) ↔ (T a × T b)
and_both true b = (λ t. (tt, t), λ p. p.1)
and_both false b = (λ t. absurd t, λ p. p.0)

pub and-true : (a b : Bool) → (a && b) ≡ true → (a ≡ true) × (b ≡ true)
and-true true b e = (refl, e)
and-true false b e = absurd (true≢false (sym e))

pub true-T : (b : Bool) → b ≡ true → T b
true-T b e = rw e tt

-- one of two tests passed
pub or_either : (a b : Bool) → T (a || b) ↔ (T a ⊎ T b)
or_either true b = (λ t. inl tt, λ p. tt)
or_either false b = (λ t. inr t, elim [ inl t ↦ absurd t | inr t ↦ t ])

pub neither : (a b : Bool) → ((a || b) ≡ false) ↔ ((a ≡ false) × (b ≡ false))
neither true b = (λ e. absurd (true≢false e), λ p. p.0)
neither false b = (λ e. (refl, e), λ p. p.1)

pub holds : (b : Bool) → (not b ≡ false) ↔ T b
holds true = (λ e. tt, λ t. refl)
holds false = (λ e. absurd (true≢false e), λ t. absurd t)

pub not-below : (m n : ℕ) → (ltb m n ≡ false) ↔ (n ≤ m)
not-below m n = search arith

pub eq_z-eq : (a b : ℤ) → T (eq_z a b) → a ≡ b
eq_z-eq (pos a) (pos b) t = ap pos (eqb→eq a b t)
eq_z-eq (pos a) (negsuc b) t = absurd t
eq_z-eq (negsuc a) (pos b) t = absurd t
eq_z-eq (negsuc a) (negsuc b) t = ap negsuc (eqb→eq a b t)

pub eq_z-same : (a : ℤ) → eq_z a a ≡ true
eq_z-same (pos a) = eqb_same a
eq_z-same (negsuc a) = eqb_same a

pub eq_z-other : (a b : ℤ) → (a ≡ b → ⊥) → eq_z a b ≡ false
eq_z-other a b ne = search arith

pub passed : (b : Bool) (n : ℕ) (next : Option Refusal) → (refuse_if b n next ≡ none) ↔ ((b ≡ false) × (next ≡ none))
passed true n next = (λ e. absurd (none_is_no_some _ (sym e)), λ p. absurd (true≢false p.0))
passed false n next = (λ e. (refl, e), λ p. p.1)

pub named : (o : Option ℕ) (n : ℕ) (next : Option Refusal) → (refuse_at o n next ≡ none) ↔ ((o ≡ none) × (next ≡ none))
named none n next = (λ e. (refl, e), λ p. p.1)
named (some i) n next = (λ e. absurd (none_is_no_some _ (sym e)), λ p. absurd (none_is_no_some _ (sym p.0)))

-- no refusal that an operation asks besides, and none further
pub unasked : (o next : Option Refusal) → (refuse_with o next ≡ none) ↔ ((o ≡ none) × (next ≡ none))
unasked none next = (λ e. (refl, e), λ p. p.1)
unasked (some r) next = (λ e. absurd (none_is_no_some r (sym e)), λ p. absurd (none_is_no_some r (sym p.0)))

-- no place is named
pub unnamed : (b : Bool) (next : Option ℕ) (i : ℕ) → cond b next (some i) ≡ none → T b × (next ≡ none)
unnamed true next i e = (tt, e)
unnamed false next i e = absurd (none_is_no_some i (sym e))
