-- `seed_leaves::plant_nodes` meets its contract. The invariant: the same lists are lent, and the nodes passed are planted. Assumes nothing.
use Rattle.lent.specs.Lent.{SameLent}
use Rattle.lent.specs.Lists.{lists_now, work_in}
use Rattle.seed_leaves.proofs.Walking.{Walked}
use Rattle.seed_leaves.proofs.plant_nodes.Given as goal

abbrev pub invariant-loop : goal.invariant-loop
invariant-loop l = SameLent l.fn.lists l.lists
    × Walked l.job (lists_now l.fn.lists) (work_in l.lists) l.tree l.count l.score_split l.counter
