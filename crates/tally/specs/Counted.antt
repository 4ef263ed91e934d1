-- What a test program counts: the cases tried, those that came out wrong, and the first of these. Assumes nothing.
use Rattle.std.specs.Prelude.{ℕ, ◌+◌, ◌%◌, ◌^◌, Bool, true, false, Option, Some, None}
use Rattle.tally.specs.declared.Tally.{Tally}

abbrev pub nothing : Tally
nothing = record { tried = 0; wrong = 0; first = None }

-- one more, in 64 bits
abbrev pub one_more : ℕ → ℕ
one_more n = (n + 1) % 2 ^ 64

-- a wrong case is the first if none was wrong before
abbrev pub first_of : Option ℕ → ℕ → Option ℕ
first_of None at = Some at
first_of (Some first) at = Some first

-- one case more, right or not, and what it was
abbrev pub counted : Tally → Bool → ℕ → Tally
counted t true at = record { tried = one_more t.tried; wrong = t.wrong; first = t.first }
counted t false at = record { tried = one_more t.tried; wrong = one_more t.wrong; first = first_of t.first at }
