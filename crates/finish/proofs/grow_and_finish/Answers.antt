-- `finish::grow_and_finish` meets its contract. Assumes nothing.
use Rattle.finish.proofs.Finishing.{grown_state, grew_so, finished_so}
use Rattle.finish.proofs.grow_and_finish.Goals as goal

pub finish_tree-made-requires : goal.finish_tree-made-requires
finish_tree-made-requires c =
    let asked = c.requires in
    let grown = c.grow_tree-grown in
    record {
      lent = asked.lent;
      state = grown_state asked.grows;
      seeds = asked.seeds;
      given = asked.given;
      grew = grew_so asked.grows (grown.ensures.grown asked.lent asked.state asked.seeds asked.given asked.grows) grown.new.lists.counts.now grown.ensures.zeros;
    }

pub returns-clause-finished : goal.returns-clause-finished
returns-clause-finished c lent st seeds given g =
    let grown = c.grow_tree-grown in
    let to = grown.ensures.grown lent st seeds given g in
    let zeros = grown.ensures.zeros in
    finished_so g to grown.new.lists.counts.now zeros c.args.flat_bits
    (c.finish_tree-made.ensures.finished lent (grown_state g) seeds given (grew_so g to grown.new.lists.counts.now zeros))
