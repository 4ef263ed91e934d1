-- `leaf::make_leaf` meets its contract: the mode step, and then the evaluation of the rows that it leaves. Assumes nothing.
use mathlib.Core.Path.{◌≡◌, sym, ap, subst, ◌∙◌}
use mathlib.Core.Bool.{Bool, true, false, true≢false}
use native.Mathlib.Omega.{arith}
use mir.Syntax.{w32}
use mir.ValLaws.{to_z-of_z}
use lib.IntN.{ℤ}
use Rattle.rows.specs.Cells.{span}
use Rattle.rows.specs.Flat.{Flat, held_in, row_count}
use Rattle.rows.specs.Lent.{flat_with}
use Rattle.rows.proofs.Shapes.{count_still}
use Rattle.model.specs.Mode.{span_mode}
use Rattle.model.specs.Rows.{within}
use Rattle.mode.specs.Column.{step_mode}
use Rattle.refuse.specs.Given.{settings_of}
use Rattle.evaluate.specs.Evaluated.{Evaluable, Evaluated, span_rows}
use Rattle.lent.specs.Fitting.{uses_of}
use Rattle.leaf.proofs.Making.{mode-stepped, Stepped, after-step, evaluable, made}
use Rattle.leaf.proofs.make_leaf.Goals as goal
use Rattle.leaf.proofs.make_leaf.Goals.{Joined-uses_modes, then-uses_modes, else-uses_modes}

-- the lists after the mode step, where modes are in use
module _ (c : Joined-uses_modes) where
  abbrev x : Flat
  x = flat_with c.args.rows.now

  abbrev stepped_mode : Bool → ℤ
  stepped_mode b = step_mode b c.args.span.first c.args.span.end c.args.rows.now.res.now

  -- modes are in use as the view of the rows says
  uses-is : c.uses_modes.result ≡ uses_of c.args.job.settings x
  uses-is = c.uses_modes.ensures ∙ ap (uses_of c.args.job.settings) c.view.ensures

  step : Stepped c.args.job c.if-uses_modes.counts (span c.args.span.first c.args.span.end) x (flat_with c.if-uses_modes.rows)
  step = elim c.if-uses_modes.branch [
    | then-uses_modes w ↦
        let told = w.step_span-mode.ensures in
        after-step c.requires.fitting c.requires.spanned true (flat_with c.if-uses_modes.rows) c.if-uses_modes.counts
        (sym w.if-uses_modes.true ∙ uses-is) (ap flat_with w.rows-is ∙ told.rows) (w.counts-is ∙ told.zeros) (λ e. rw w.rows-is told.low)
    | else-uses_modes w ↦
        after-step c.requires.fitting c.requires.spanned false (flat_with c.if-uses_modes.rows) c.if-uses_modes.counts
        (sym w.if-uses_modes.false ∙ uses-is) (ap flat_with w.rows-is) w.counts-is (λ e. absurd (true≢false (sym e)))
  ]

  mode-is : c.if-uses_modes.mode ≡ span_mode (uses_of c.args.job.settings x) (within (span c.args.span.first c.args.span.end) (held_in x))
  mode-is =
      (elim c.if-uses_modes.branch [
        | then-uses_modes w ↦
            sym c.if-uses_modes.mode-is ∙ w.mode-is
            ∙ to_z-of_z w32 w.step_span-mode.result (record { sfits = w.step_span-mode.type_inv })
            ∙ w.step_span-mode.ensures.answer
            ∙ ap stepped_mode (sym w.if-uses_modes.true ∙ uses-is)
        | else-uses_modes w ↦ sym c.if-uses_modes.mode-is ∙ w.mode-is ∙ ap stepped_mode (sym w.if-uses_modes.false ∙ uses-is)
      ])
      ∙ mode-stepped c.requires.fitting c.requires.spanned

pub evaluate_rows-requires : goal.evaluate_rows-requires
evaluate_rows-requires c =
    let a = c.args in
    let st = step (goal.at.evaluate_rows-requires c).Joined-uses_modes in
    let job = a.job in
    subst
    (λ (y : Flat). Evaluable y.props y.toks a.span.first a.span.end job.settings job.logs.now c.if-uses_modes.counts)
    (sym c.view-2.ensures) (evaluable st.fitting st.spanned)

pub returns-clause-answer : goal.returns-clause-answer
returns-clause-answer c =
    let at = (goal.at.returns-clause-answer c).Joined-uses_modes in
    let a = c.args in
    let y = flat_with c.if-uses_modes.rows in
    made _ c.requires.spanned (step at) (mode-is at)
    (subst
    (λ (v : Flat). Evaluated c.evaluate_rows.result a.score_split (settings_of a.job.settings) a.job.logs.now
    c.if-uses_modes.mode a.depth (span_rows a.span.first a.span.end v.props v.toks (row_count y) y.res))
    c.view-2.ensures
    (rw c.if-uses_modes.mode-is at
    (c.evaluate_rows.ensures.answer (row_count y) y.res
    (omega (arith, c.requires.spanned.inside, count_still (step at).changed.size)))))
