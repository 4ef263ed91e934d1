-- `grow::grow_tree` meets its contract: the lists hold the state after the splits made so far. Assumes nothing.
use Rattle.layout.specs.Lent.{lists_in}
use Rattle.lent.specs.Lent.{SameLent}
use Rattle.rows.specs.Lent.{flat_in}
use Rattle.grow.proofs.Growth.{Going}
use Rattle.grow.proofs.grow_tree.Given as goal

abbrev pub invariant-loop-left : goal.invariant-loop-left
invariant-loop-left l = record {
  lent : SameLent l.initial.lists l.lists;
  going : Going l.job l.initial.lists.counts.now l.lists.counts.now (flat_in l.initial.lists.rows.now) (flat_in l.lists.rows.now)
      (lists_in l.initial.lists.at.now) (lists_in l.lists.at.now) l.initial.lists.queue.now l.lists.queue.now l.initial.tree l.tree l.more l.left;
}
