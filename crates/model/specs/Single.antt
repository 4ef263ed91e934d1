-- The meter of document 01: costs in single precision, each operation rounded once; totals in double precision. Assumes nothing.
use Rattle.std.specs.Prelude.{ℕ, false, pos, Float}
use Rattle.std.specs.Float.{nan, fin, inf, binary32, binary64}
use Rattle.std.specs.Float.Ieee.{add, sub, mul, lt, le, of_int}
use Rattle.model.specs.Meter.{Meter}

-- a count as a single-precision number: nothing is lost up to 2 ^ 24
abbrev pub single_of : ℕ → Float
single_of n = of_int binary32 (pos n)

-- a single-precision number is its own value in double precision
abbrev pub singles : Meter
singles =
    record {
      Cost = Float;
      Total = Float;
      nought = fin false 0 (pos 0);
      endless = inf false;
      spare = nan;
      less = lt;
      plus = add binary32;
      minus = sub binary32;
      times = λ (n : ℕ) (x : Float). mul binary32 (single_of n) x;
      extra = single_of;
      no_total = fin false 0 (pos 0);
      total = λ (x : Float). x;
      add = add binary64;
      at_most = le;
    }
