-- `symbol_writer::write_symbols` meets its contract: each refusal is the definition's, and the walk writes what the definition gives. Assumes nothing.
use Rattle.std.proofs.Common.{ℕ, length, take, replicate, ◌∙◌, ap, sym}
use lib.Seq.{length-take-le, length_front}
use Rattle.model.specs.Answered.{option_of}
use Rattle.tree.proofs.Lists.{both_long}
use Rattle.tree.proofs.Soundness.{no_fault_named}
use Rattle.symbol_writer.proofs.Counted.{few_symbols}
use Rattle.symbol_writer.proofs.Refusals.{faulty, cramped, written}
use Rattle.symbol_writer.proofs.write_symbols.Goals as goal

pub returns-in-Some : goal.returns-in-Some
returns-in-Some c = sym (faulty c.args.nodes.now c.args.count _ _ (sym c.fault_in.ensures ∙ ap option_of c.in-Some.is))

pub symbol_count-wanted-requires : goal.symbol_count-wanted-requires
symbol_count-wanted-requires c = (no_fault_named c.args.nodes.now c.args.count (sym c.fault_in.ensures ∙ ap option_of c.in_default.is)).1

pub returns-then-symbols-wanted : goal.returns-then-symbols-wanted
returns-then-symbols-wanted c =
    sym (cramped c.args.nodes.now c.args.count _ (sym c.fault_in.ensures ∙ ap option_of c.in_default.is) c.symbol_count-wanted.result c.symbol_count-wanted.ensures c.if-symbols-wanted.true)

pub write_tree-requires : goal.write_tree-requires
write_tree-requires c = let a = c.args in
    let r = both_long (length a.symbols.now) c.symbol_count-wanted.result (length a.queue.now) a.count c.if-symbols-wanted.false in
    let f = no_fault_named a.nodes.now a.count (sym c.fault_in.ensures ∙ ap option_of c.in_default.is) in
    record {
      sound = f.1;
      places = length-take-le c.symbol_count-wanted.result a.symbols.now r.0 ∙ c.symbol_count-wanted.ensures;
      order_there = length-take-le a.count a.queue.now r.1 ∙ sym (length-take-le a.count a.nodes.now f.0);
    }

pub overflow_cast-result : goal.overflow_cast-result
overflow_cast-result c = let a = c.args in
    let f = no_fault_named a.nodes.now a.count (sym c.fault_in.ensures ∙ ap option_of c.in_default.is) in
    record { fits = rw c.symbol_count-wanted.ensures (few_symbols (take a.count a.nodes.now) f.1) }

pub returns : goal.returns
returns c = let a = c.args in
    sym (written a.nodes.now a.count _ (sym c.fault_in.ensures ∙ ap option_of c.in_default.is) c.symbol_count-wanted.result c.symbol_count-wanted.ensures
    c.write_tree.new.symbols c.fill.new.self c.if-symbols-wanted.false c.write_tree.ensures
    (c.fill.ensures.after (λ y e. e) ∙ ap (λ (n : ℕ). replicate n 0) (length_front a.queue.now c.write_tree.new.order a.count c.write_tree.auto.order)))
