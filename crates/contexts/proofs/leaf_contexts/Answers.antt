-- `contexts::leaf_contexts` meets its contract: each refusal is the definition's, and the walk gives what the definition gives. Assumes nothing.
use Rattle.std.proofs.Common.{ℕ, length, replicate, ◌∙◌, ap, sym}
use lib.Seq.{length-take-le, length_front}
use Rattle.model.specs.Answered.{option_of}
use Rattle.tree.proofs.Lists.{both_long}
use Rattle.tree.proofs.Entries.{tree-is}
use Rattle.tree.proofs.Soundness.{no_fault_named}
use Rattle.contexts.proofs.Refusals.{faulty, cramped, counted}
use Rattle.contexts.proofs.leaf_contexts.Goals as goal

pub returns-in-Some : goal.returns-in-Some
returns-in-Some c = sym (faulty c.args.nodes.now c.args.count _ _ (sym c.fault_in.ensures ∙ ap option_of c.in-Some.is))

pub returns-then-contexts-n : goal.returns-then-contexts-n
returns-then-contexts-n c = sym (cramped c.args.nodes.now c.args.count _ (sym c.fault_in.ensures ∙ ap option_of c.in_default.is) c.if-contexts-n.true)

pub number_leaves-leaves-requires : goal.number_leaves-leaves-requires
number_leaves-leaves-requires c = let a = c.args in
    let r = both_long (length a.contexts.now) a.count (length a.queue.now) a.count c.if-contexts-n.false in
    let f = no_fault_named a.nodes.now a.count (sym c.fault_in.ensures ∙ ap option_of c.in_default.is) in
    let long = length-take-le a.count a.nodes.now f.0 in
    record {
      sound = f.1;
      places = length-take-le a.count a.contexts.now r.0 ∙ sym long;
      queue_there = length-take-le a.count a.queue.now r.1 ∙ sym long;
    }

pub returns : goal.returns
returns c = let a = c.args in
    let one = length-take-le a.count a.contexts.now (both_long (length a.contexts.now) a.count (length a.queue.now) a.count c.if-contexts-n.false).0 in
    sym (counted a.nodes.now a.count _ (sym c.fault_in.ensures ∙ ap option_of c.in_default.is) _ _ _ c.if-contexts-n.false
    (rw (← tree-is a.nodes.now a.count) at c.number_leaves-leaves.ensures) (c.number_leaves-leaves.auto.contexts ∙ one)
    (c.fill.ensures.after (λ y e. e) ∙ ap (λ (n : ℕ). replicate n 0) (length_front a.queue.now c.number_leaves-leaves.new.queue a.count c.number_leaves-leaves.auto.queue)))
