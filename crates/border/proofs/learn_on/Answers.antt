-- `border::learn_on` meets its contract: a refusal is the checks' own and writes nothing; after a pass, what the core makes is the model's. Assumes nothing.
use Rattle.std.proofs.Common.{rules, ◌≡◌, refl, sym, ap, ◌∙◌}
use Rattle.std.specs.Prelude.{Err}
use Rattle.model.specs.Operations.{accepted}
use Rattle.model.specs.Answered.{outcome_of_result, refusal_of}
use Rattle.lent.specs.Answer.{tree_outcome}
use Rattle.answers.specs.Answers.{learned_in}
use Rattle.border.specs.Lists.{records_in, lent_in}
use Rattle.border.proofs.Checking.{lends-records, learnable, learn-told, learn-done}
use Rattle.border.proofs.learn_on.Goals as goal

pub returns-in_err-check_learn-clause-worked : goal.returns-in_err-check_learn-clause-worked
returns-in_err-check_learn-clause-worked c =
    let a = c.args in
    let x = records_in a.lists.now in
    let e = ap outcome_of_result (sym c.in_err-check_learn.was) ∙ c.check_learn.ensures (lent_in x) (rw (c.view.ensures, c.rooms_of-rooms.ensures) (lends-records x)) in
    let told : c.from_residual.result ≡ Err c.in_err-check_learn.field-0.0 = search rules in
    learn-told a.job x x (refusal_of c.in_err-check_learn.field-0.0) e (ap (λ r. learned_in (tree_outcome r)) told) refl

pub learn_ma_tree_in_place-tree-requires : goal.learn_ma_tree_in_place-tree-requires
learn_ma_tree_in_place-tree-requires c =
    let a = c.args in
    let x = records_in a.lists.now in
    let e = ap outcome_of_result (sym c.in_ok-check_learn.was) ∙ c.check_learn.ensures (lent_in x) (rw (c.view.ensures, c.rooms_of-rooms.ensures) (lends-records x)) in
    learnable a.job x e

pub returns-clause-worked : goal.returns-clause-worked
returns-clause-worked c =
    let a = c.args in
    let x = records_in a.lists.now in
    let e = ap outcome_of_result (sym c.in_ok-check_learn.was) ∙ c.check_learn.ensures (lent_in x) (rw (c.view.ensures, c.rooms_of-rooms.ensures) (lends-records x)) in
    let made = c.learn_ma_tree_in_place-tree in
    let y = records_in made.new.lists in
    learn-done a.job x y e made.ensures.finished made.ensures.lists (ap (λ t. learned_in (accepted t)) c.answer.ensures)
