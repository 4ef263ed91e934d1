-- Entries 1 to `rows` are tested, no others. Assumes nothing.
use borrow.Author.Rules.{rules}
use borrow.Author.Tests.{tests, le-ltb}
use mathlib.Core.Path.{◌≡◌, sym, ap, ◌∙◌}
use Prim.Native.Nat.{◌+◌, ◌-◌}
use native.Mathlib.Omega.{arith}
use mathlib.Core.Bool.{not}
use Rattle.std.proofs.lemmas.Iterator.{YieldsList-from_slice}
use Rattle.std.proofs.lemmas.Iterator.Search.{all_from_yields_List}
use Rattle.model.specs.Lent.{row_count}
use Rattle.refuse.specs.Accepted.{log_fits}
use Rattle.refuse.proofs.Scan.{logs-short, logs-tested}
use Rattle.refuse.proofs.logs_fit.Goals as goal

pub returns-then-rows-logs : goal.returns-then-rows-logs
returns-then-rows-logs c = λ x h.
    let all = all_from_yields_List log_fits _ _ _ c.all.ensures.ran (YieldsList-from_slice _ c.iter.ensures.rest) (λ x b q k. search (rules, tests)) in
    let count : c.args.rows + 1 - 1 ≡ row_count x = omega arith in
    all ∙ rw count (logs-tested c.args.logs.now x (rw h c.if-rows-logs.true))

pub returns-else-rows-logs : goal.returns-else-rows-logs
returns-else-rows-logs c = λ x h. rw (le-ltb _ _ c.if-rows-logs.false) (ap not (sym (logs-short _ x (rw h c.if-rows-logs.false))))
