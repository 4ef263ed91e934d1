-- `mode::retoken` meets its contract: what was made anew and what is left are the whole. Assumes nothing.
use mathlib.Core.Path.{◌≡◌}
use lib.ListN.{length, drop}
use Rattle.mode.specs.Each.{Each, Differs}
use Rattle.mode.specs.Column.{rezeroed}
use Rattle.mode.specs.Lent.{LowTokens}
use Rattle.mode.proofs.retoken.Given as goal

abbrev pub invariant-loop-i : goal.invariant-loop-i
invariant-loop-i l =
    (length l.tok ≡ length l.initial.tok)
    × Each (Differs l.mode) (drop l.i l.res)
    × (rezeroed l.mode l.i (drop l.i l.res) l.tok ≡ rezeroed l.mode 0 l.res l.initial.tok)
    × LowTokens 0 l.i l.tok
