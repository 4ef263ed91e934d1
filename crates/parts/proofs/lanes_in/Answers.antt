-- `parts::lanes_in` meets its contract: the entries passed have their lanes. Assumes nothing.
use mathlib.Core.Path.{ap, ◌∙◌}
use mathlib.Core.List.{List, [], ◌∷◌, ◌++◌}
use Prim.Native.Nat.{◌+◌, ◌-◌}
use lib.ListN.{get_or}
use Rattle.score_windows.specs.declared.Lane.{Lane}
use Rattle.parts.proofs.Laning.{lanes-more}
use Rattle.parts.proofs.lanes_in.Goals as goal

pub loop-j-preserved : goal.loop-j-preserved
loop-j-preserved c =
    let a = c.args in
    let j = c.loop-j.j in
    let own : Lane = record {
      pred = get_or a.preds.now j 0;
      first = get_or a.firsts.now j 0;
      width = get_or a.offs.now (j + 1) 0 - get_or a.offs.now j 0;
      off = get_or a.offs.now j 0;
    } in
    c.push.ensures.items ∙ ap (λ (ls : List Lane). ls ++ own ∷ []) c.loop-j.invariant
    ∙ lanes-more a.preds.now a.firsts.now a.offs.now j
