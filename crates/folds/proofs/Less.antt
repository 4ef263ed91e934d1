-- What the comparisons of numbers say of `<`. Assumes nothing.
use mathlib.Core.Path.{◌≡◌, refl}
use mathlib.Core.Bool.{Bool, true, false, cond}
use lib.Dec.{ltb}
use lib.Signed.{lt_z}
use Rattle.std.specs.Float.Ieee.{lt, eq}
use Rattle.std.specs.Prelude.{◌==◌, Option, Some, None}
use Rattle.std.specs.Ordering.{partial_lt, is_lt, is_some_and, nat_cmp, int_cmp, float_partial_cmp}
use Rattle.std.specs.declared.cmp.Ordering.{Ordering}
use Rattle.std.specs.declared.cmp.Ordering.TheVariants.{Less, Equal, Greater}
use Rattle.folds.specs.Range.{less_by}

-- less if the test holds, and else not
first_less : (b : Bool) (o : Ordering) → is_lt o ≡ false → is_lt (cond b Less o) ≡ b
first_less true o e = refl
first_less false o e = e

none_less : (b : Bool) (o p : Ordering) → is_lt o ≡ false → is_lt p ≡ false → is_lt (cond b o p) ≡ false
none_less true o p e f = e
none_less false o p e f = f

some_less : (a b c : Bool) → is_some_and is_lt (cond {A = Option Ordering} a (Some Less) (cond {A = Option Ordering} b (Some Equal) (cond {A = Option Ordering} c (Some Greater) None))) ≡ a
some_less true b c = refl
some_less false true c = refl
some_less false false true = refl
some_less false false false = refl

pub less_nat : less_by nat_cmp ≡ ltb
less_nat = λ i x y. first_less (ltb x y) (cond (x == y) Equal Greater) (none_less (x == y) Equal Greater refl refl) i

pub less_int : less_by int_cmp ≡ lt_z
less_int = λ i x y. first_less (lt_z x y) (cond (lt_z y x) Greater Equal) (none_less (lt_z y x) Greater Equal refl refl) i

pub less_float : partial_lt float_partial_cmp ≡ lt
less_float = λ i x y. some_less (lt x y) (eq x y) (lt y x) i
