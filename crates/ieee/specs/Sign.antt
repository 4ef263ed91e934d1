-- The sign of what `round` gives. Assumes nothing.
use Rattle.std.specs.Prelude.{◌≡◌, refl, ℕ, zero, suc, ◌+◌, ◌*◌, ◌^◌, Bool, true, false, not, cond, T, ltb, Float}
use Rattle.std.proofs.Common.{sym, ap, ◌∙◌, subst}
use Rattle.std.specs.Float.{nan, inf, fin, Format}
use Rattle.std.specs.Float.Ieee.{prec, emax, low, odd, units, round, neg}
use Rattle.std.specs.Float.Ieee.Fits.{round_is}

-- a number, and its sign is clear
abbrev pub clear : Float → Bool
clear nan = false
clear (inf s) = not s
clear (fin s m e) = not s

odd-clear : (d q k l : ℕ) → T (clear (odd d false q k l))
unfolding odd
odd-clear d zero k l = tt
odd-clear d (suc q) k l = tt

cond-clear : (b : Bool) (x y : Float) → T (clear x) → T (clear y) → T (clear (cond b x y))
cond-clear true x y h k = h
cond-clear false x y h k = k

units-clear : (f : Format) (q k : ℕ) → T (clear (units f false q k))
unfolding units
units-clear f q k = cond-clear (ltb (q * 2 ^ k) (2 ^ (low f + suc (emax f)))) _ _ (odd-clear (suc (prec f)) q k (low f)) tt

pub round-clear : (f : Format) (num den : ℕ) → T (clear (round f false num den))
round-clear f num den = subst (λ (x : Float). T (clear x)) (sym (round_is f false num den)) (units-clear f _ _)

odd-neg : (d q k l : ℕ) → odd d true q k l ≡ neg (odd d false q k l)
unfolding odd neg
odd-neg d zero k l = refl
odd-neg d (suc q) k l = refl

cond-neg : (b : Bool) (x y x' y' : Float) → x ≡ neg x' → y ≡ neg y' → cond b x y ≡ neg (cond b x' y')
cond-neg true x y x' y' h k = h
cond-neg false x y x' y' h k = k

units-neg : (f : Format) (q k : ℕ) → units f true q k ≡ neg (units f false q k)
unfolding units neg
units-neg f q k = cond-neg (ltb (q * 2 ^ k) (2 ^ (low f + suc (emax f)))) _ _ _ _ (odd-neg (suc (prec f)) q k (low f)) refl

-- the sign has no part in the rounding
pub round-neg : (f : Format) (num den : ℕ) → round f true num den ≡ neg (round f false num den)
round-neg f num den = round_is f true num den ∙ units-neg f _ _ ∙ ap neg (sym (round_is f false num den))
