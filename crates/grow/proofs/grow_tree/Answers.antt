-- `grow::grow_tree` meets its contract: the lists hold the state after the splits made so far. Assumes nothing.
use native.Mathlib.Omega.{arith}
use borrow.Author.Rules.{rules}
use Rattle.grow.proofs.Growth.{queue-room, spans_there, splits, turn, all_made, none_waits}
use Rattle.grow.proofs.grow_tree.Goals as goal

pub foremost-k-requires : goal.foremost-k-requires
foremost-k-requires c =
    let going = c.loop-left.invariant.going in
    (omega arith, queue-room c.requires going, spans_there c.requires going c.loop-left-test.true)

pub split_leaf-tree-requires : goal.split_leaf-tree-requires
split_leaf-tree-requires c = splits c.requires c.loop-left.invariant.going c.loop-left-test.true c.foremost-k.result (omega arith) c.foremost-k.ensures

pub loop-left-preserved : goal.loop-left-preserved
loop-left-preserved c =
    let h = c.loop-left.invariant in
    let split = c.split_leaf-tree.ensures in
    record {
      lent = search rules;
      going = turn c.requires h.going c.loop-left-test.true split.grown split.zeros split.lengths.0 split.lengths.1;
    }

pub returns-then-lists-eq0 : goal.returns-then-lists-eq0
returns-then-lists-eq0 c =
    let h = c.loop-left.invariant in
    record { lent = h.lent; grown = λ lent st seeds given g. none_waits c.requires h.going lent st seeds given g c.loop-left-test.true c.if-lists-eq0.true; zeros = h.going.space; lengths = h.going.queue }

pub returns-after-loop-left : goal.returns-after-loop-left
returns-after-loop-left c =
    let h = c.loop-left.invariant in
    record { lent = h.lent; grown = λ lent st seeds given g. all_made c.requires h.going lent st seeds given g (omega arith); zeros = h.going.space; lengths = h.going.queue }
