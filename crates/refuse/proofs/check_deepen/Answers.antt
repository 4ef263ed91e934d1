-- The conditions are learning's, and then the seed's room. Assumes nothing.
use borrow.Author.Rules.{rules}
use mathlib.Core.Path.{◌≡◌, sym, ap, ◌∙◌}
use mathlib.Core.Bool.{Bool}
use mathlib.Core.List.{List}
use mathlib.Core.Option.{Option, none, or_else}
use Prim.Native.Nat.{ℕ}
use lib.Ieee.{Float}
use Rattle.std.specs.Prelude.{Err}
use Rattle.model.specs.Answered.{outcome_of_result}
use Rattle.model.specs.Lent.{Lent, row_count}
use Rattle.model.specs.Operations.{Outcome, refused, accepted, outcome_of}
use Rattle.model.specs.Profile.{single}
use Rattle.model.specs.Settings.{Settings}
use Rattle.model.specs.Single.{singles}
use Rattle.model.specs.Refuse.{Refusal, refuse_if, is_short_of_seed_room, room_besides, refused_before, learn_refusal}
use Rattle.refuse.proofs.Answers.{told, still-refused, left-to}
use Rattle.refuse.proofs.Passed.{after_learning}
use Rattle.refuse.proofs.check_deepen.Goals as goal

module _ (t : Settings singles) (logs : List Float) (x : Lent singles) (seeds : ℕ) where
  abbrev learning : Outcome ℕ
  learning = outcome_of (learn_refusal single t logs x) (row_count x)

  abbrev deepening : Outcome ℕ
  deepening = outcome_of (refused_before single t logs x (room_besides (is_short_of_seed_room seeds x))) (row_count x)

  in-turn : deepening ≡ outcome_of (or_else (learn_refusal single t logs x) (refuse_if (is_short_of_seed_room seeds x) 7 none)) (row_count x)
  in-turn = ap (λ (o : Option Refusal). outcome_of o (row_count x)) (after_learning single t logs x (is_short_of_seed_room seeds x))

  refused-first : (r : Refusal) → refused r ≡ learning → refused r ≡ deepening
  refused-first r e = still-refused _ _ _ r e ∙ sym in-turn

  rows_are : (n : ℕ) → accepted n ≡ learning → row_count x ≡ n
  rows_are n e = (left-to _ none _ n e).1

  asked-last : (n : ℕ) → accepted n ≡ learning → {v : Bool} → is_short_of_seed_room seeds x ≡ v → deepening ≡ outcome_of (refuse_if v 7 none) (row_count x)
  asked-last n e f = in-turn ∙ (left-to _ _ _ n e).0 ∙ ap (λ (b : Bool). outcome_of (refuse_if b 7 none) (row_count x)) f

pub returns-in_err-count : goal.returns-in_err-count
returns-in_err-count c = λ x h.
    let e = ap outcome_of_result (sym c.in_err-count.was) ∙ c.check_learn.ensures x h in
    let same : c.from_residual.result ≡ Err c.in_err-count.field-0.0 = search rules in
    ap outcome_of_result same ∙ refused-first _ _ x c.args.seeds _ e

pub returns-then-not-seed_rooms_fit : goal.returns-then-not-seed_rooms_fit
returns-then-not-seed_rooms_fit c = λ x h.
    let e = ap outcome_of_result (sym c.in_ok-count.was) ∙ c.check_learn.ensures x h in
    let seeds = c.args.seeds in
    let short = told (is_short_of_seed_room seeds x) (c.seed_rooms_fit.ensures x (rows_are _ _ x seeds _ e) h.rooms) c.if-not-seed_rooms_fit.true in
    sym (asked-last _ _ x seeds _ e short)

pub returns : goal.returns
returns c = λ x h.
    let e = ap outcome_of_result (sym c.in_ok-count.was) ∙ c.check_learn.ensures x h in
    let seeds = c.args.seeds in
    let rows = rows_are _ _ x seeds _ e in
    let short = told (is_short_of_seed_room seeds x) (c.seed_rooms_fit.ensures x rows h.rooms) c.if-not-seed_rooms_fit.false in
    ap accepted (sym rows) ∙ sym (asked-last _ _ x seeds _ e short)
