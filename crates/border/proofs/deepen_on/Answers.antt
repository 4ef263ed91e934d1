-- `border::deepen_on` meets its contract: a refusal is the checks' own and writes nothing; after a pass, what the core makes is the model's. Assumes nothing.
use Rattle.std.proofs.Common.{rules, ◌≡◌, refl, sym, ap, ◌∙◌}
use Rattle.std.specs.Prelude.{Err}
use Rattle.model.specs.Operations.{accepted}
use Rattle.model.specs.Answered.{outcome_of_result, refusal_of}
use Rattle.lent.specs.Answer.{tree_outcome}
use Rattle.model.specs.Answered.{option_of}
use Rattle.answers.specs.Answers.{learned_in}
use Rattle.border.specs.Lists.{records_in, lent_in}
use Rattle.border.proofs.Checking.{lends-records, seed_there, deepenable, deepen-told, fault-told, deepen-done}
use Rattle.border.proofs.deepen_on.Goals as goal

pub returns-in_err-check_deepen-clause-worked : goal.returns-in_err-check_deepen-clause-worked
returns-in_err-check_deepen-clause-worked c =
    let a = c.args in
    let x = records_in a.lists.now in
    let e = ap outcome_of_result (sym c.in_err-check_deepen.was) ∙ c.check_deepen.ensures (lent_in x) (rw (c.view.ensures, c.rooms_of-rooms.ensures) (lends-records x)) in
    let told : c.from_residual.result ≡ Err c.in_err-check_deepen.field-0.0 = search rules in
    deepen-told a.job x x a.count (refusal_of c.in_err-check_deepen.field-0.0) e (ap (λ r. learned_in (tree_outcome r)) told) refl

pub seed_fault-requires : goal.seed_fault-requires
seed_fault-requires c =
    let a = c.args in
    let x = records_in a.lists.now in
    let e = ap outcome_of_result (sym c.in_ok-check_deepen.was) ∙ c.check_deepen.ensures (lent_in x) (rw (c.view.ensures, c.rooms_of-rooms.ensures) (lends-records x)) in
    seed_there a.job x a.count e

pub returns-in-Some-clause-worked : goal.returns-in-Some-clause-worked
returns-in-Some-clause-worked c =
    let a = c.args in
    let x = records_in a.lists.now in
    let e = ap outcome_of_result (sym c.in_ok-check_deepen.was) ∙ c.check_deepen.ensures (lent_in x) (rw (c.view.ensures, c.rooms_of-rooms.ensures) (lends-records x)) in
    fault-told a.job x x a.count e c.in-Some.node (sym c.seed_fault.ensures ∙ ap option_of c.in-Some.is) refl refl

pub deepen_ma_tree-tree-requires : goal.deepen_ma_tree-tree-requires
deepen_ma_tree-tree-requires c =
    let a = c.args in
    let x = records_in a.lists.now in
    let e = ap outcome_of_result (sym c.in_ok-check_deepen.was) ∙ c.check_deepen.ensures (lent_in x) (rw (c.view.ensures, c.rooms_of-rooms.ensures) (lends-records x)) in
    deepenable a.job x a.count e (sym c.seed_fault.ensures ∙ ap option_of c.in_default.is)

pub returns-clause-worked : goal.returns-clause-worked
returns-clause-worked c =
    let a = c.args in
    let x = records_in a.lists.now in
    let e = ap outcome_of_result (sym c.in_ok-check_deepen.was) ∙ c.check_deepen.ensures (lent_in x) (rw (c.view.ensures, c.rooms_of-rooms.ensures) (lends-records x)) in
    let made = c.deepen_ma_tree-tree in
    let y = records_in made.new.lists in
    deepen-done a.job x y a.count e (sym c.seed_fault.ensures ∙ ap option_of c.in_default.is) made.ensures.finished made.ensures.lists
    (ap (λ t. learned_in (accepted t)) c.answer.ensures)
