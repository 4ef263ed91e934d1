-- `tree::fault_of` meets its contract: a wrong count is found first, then the lowest node at fault. Assumes nothing.
use Rattle.std.proofs.Common.{◌≡◌, ℕ, length, replicate, length-take, arith, ap, ◌∙◌, sym}
use Rattle.std.proofs.lemmas.List.{take-replicate, length-replicate}
use Rattle.model.specs.Settings.{max_nodes}
use Rattle.tree.proofs.Lists.{in_range}
use Rattle.tree.proofs.Faults.{fault-count, fault-nodes}
use Rattle.tree.proofs.fault_of.Goals as goal

pub returns-then-count : goal.returns-then-count
returns-then-count c = sym (fault-count c.args.tree.now c.if-count.true)

pub pass_nodes-requires-clause-zeros : goal.pass_nodes-requires-clause-zeros
pass_nodes-requires-clause-zeros c = take-replicate _ _ _ (in_range (length c.args.tree.now) max_nodes c.if-count.false).1

pub count_parents-requires : goal.count_parents-requires
count_parents-requires c = let few = (in_range (length c.args.tree.now) max_nodes c.if-count.false).1 in
    let long : length c.pass_nodes.new.due ≡ length c.args.tree.now = omega (arith, simp (length-take, length-replicate) at c.pass_nodes.auto.due) in
    (few, rw c.fill.ensures.after (ap (λ (n : ℕ). replicate n 0) long))

pub returns : goal.returns
returns c = c.lowest_fault.ensures ∙ sym (fault-nodes c.args.tree.now c.if-count.false)
