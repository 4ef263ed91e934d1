-- `evaluate::best_split` meets its contract. Each way on has its law. Assumes nothing.
use mathlib.Core.Path.{◌≡◌, refl, sym, ap, ◌∙◌, subst}
use mathlib.Core.List.{List}
use Prim.Native.Nat.{ℕ, ◌+◌, ◌-◌, ◌*◌, ◌≤◌, ◌<◌}
use native.Mathlib.Omega.{arith}
use lib.IntN.{ℤ}
use lib.ListN.{length, get_or, take, length-take}
use borrow.Author.Rules.{part_to_end}
use borrow.Rule.Slice.PartMut.{put_mid, put_same}
use Rattle.refuse.specs.Given.{settings_of}
use Rattle.candidates.specs.Column.{column}
use Rattle.model.specs.Candidates.{candidates_of}
use Rattle.model.specs.Lists.{is_empty}
use Rattle.score.specs.Scored.{Spare}
use mathlib.Core.Bool.{Bool}
use Rattle.model.specs.Score.{score_of}
use Rattle.score_windows.specs.Windows.{preds_of}
use Rattle.evaluate.specs.Evaluated.{span_rows}
use Rattle.evaluate.specs.Order.{order_at, order_count}
use Rattle.evaluate.proofs.Orders.{order-few, order_below, table, table_at}
use Rattle.evaluate.proofs.Turns.{turn-skipped, turn-passed, turn-scored, turn_end}
use Rattle.evaluate.proofs.Calls.{pickable, scorable, spare}
use Rattle.evaluate.proofs.best_split.Goals as goal
use Rattle.evaluate.proofs.best_split.Goals.{After-candidates_in, In-Some}

-- ---- places

-- the properties that are gone over, no more than there are
gone_over : (weighted : Bool) (n : ℕ) → n ≡ order_count weighted → (length (take n table) ≡ n) × (n ≤ 24)
gone_over weighted n e = let few : n ≤ 24 = omega (arith, order-few weighted) in (omega (arith, length-take n table), few)

few : (weighted : Bool) (n : ℕ) → n ≡ order_count weighted → length (take n table) ≤ 24
few weighted n e = omega (arith, gone_over weighted n e)

placed : (weighted : Bool) (n : ℕ) → n ≡ order_count weighted → (k : ℕ) → k < length (take n table) → get_or (take n table) k 0 ≡ order_at k
placed weighted n e k h = table_at n k (gone_over weighted n e).1 (omega (arith, gone_over weighted n e))

below : (weighted : Bool) (n : ℕ) → n ≡ order_count weighted → (k : ℕ) → k < length (take n table) → get_or (take n table) k 0 < 24
below weighted n e k h = rw (placed weighted n e k h) (order_below k (omega (arith, few weighted n e)))

abbrev prop : After-candidates_in → ℕ
prop c = get_or (take c.property_count.result table) c.loop-prop.prop-index 0

-- the property's candidates
abbrev picked : After-candidates_in → List ℤ
picked c = let a = c.args in candidates_of a.job.settings.max_candidates (column a.span.props.now (prop c) a.span.first a.span.end)

pub loop-prop-preserved-then-is_repeated : goal.loop-prop-preserved-then-is_repeated
loop-prop-preserved-then-is_repeated c = let a = c.args in
    turn-skipped a.span.props.now a.span.tok.now a.span.first a.span.end (preds_of a.sides.lanes.now) a.job.logs.now a.node.alphabet a.job.settings.max_candidates
    (length (take c.property_count.result table)) a.counts.now c.requires.splittable.node.tokens.order (few c.args.job.settings.allow_wp _ c.property_count.ensures) c.loop-prop.invariant c.loop-prop-test.true
    _ (placed c.args.job.settings.allow_wp _ c.property_count.ensures c.loop-prop.prop-index c.loop-prop-test.true) (sym c.is_repeated.ensures ∙ c.if-is_repeated.true)

pub candidates_in-requires : goal.candidates_in-requires
candidates_in-requires c =
    pickable c.requires.splittable.node _ (below c.args.job.settings.allow_wp _ c.property_count.ensures c.loop-prop.prop-index c.loop-prop-test.true) c.loop-prop.invariant.space

pub loop-prop-preserved-in_default : goal.loop-prop-preserved-in_default
loop-prop-preserved-in_default c = let there = (goal.at.loop-prop-preserved-in_default c).After-candidates_in in
    let a = c.args in
    turn-passed a.span.props.now a.span.tok.now a.span.first a.span.end (preds_of a.sides.lanes.now) a.job.logs.now a.node.alphabet a.job.settings.max_candidates
    (length (take c.property_count.result table)) a.counts.now c.requires.splittable.node.tokens.order (few c.args.job.settings.allow_wp _ c.property_count.ensures) c.loop-prop.invariant c.loop-prop-test.true
    _ (placed c.args.job.settings.allow_wp _ c.property_count.ensures c.loop-prop.prop-index c.loop-prop-test.true) there.candidates_in.ensures.zeros
    (sym c.candidates_in.ensures.answer ∙ sym c.deref.ensures.0 ∙ c.in_default.ensures.none)

-- the plan has the property's candidates
plan-is : (c : In-Some) → c.in-Some.plan.cands.now ≡ picked (goal.at.In-Some c).After-candidates_in
plan-is c = c.in-Some.ensures.some.1 ∙ c.deref.ensures.0 ∙ c.candidates_in.ensures.answer

pub bounds-planned-prop : goal.bounds-planned-prop
bounds-planned-prop c = below c.args.job.settings.allow_wp _ c.property_count.ensures c.loop-prop.prop-index c.loop-prop-test.true

pub score_property-score-requires-clause-scorable : goal.score_property-score-requires-clause-scorable
score_property-score-requires-clause-scorable c = let there = (goal.at.score_property-score-requires-clause-scorable c).After-candidates_in in
    let here = (goal.at.score_property-score-requires-clause-scorable c).In-Some in
    rw (c.requires.alphabet, c.in-Some.ensures.some.0, plan-is here)
    (scorable c.requires.splittable (prop there) (below c.args.job.settings.allow_wp _ c.property_count.ensures c.loop-prop.prop-index c.loop-prop-test.true))

pub score_property-score-requires-clause-spare : goal.score_property-score-requires-clause-spare
score_property-score-requires-clause-spare c = let there = (goal.at.score_property-score-requires-clause-spare c).After-candidates_in in
    let here = (goal.at.score_property-score-requires-clause-spare c).In-Some in
    let a = c.args in
    let at = 4096 + 14 * a.job.settings.alphabet in
    rw (c.requires.alphabet, plan-is here)
    (subst (Spare (length a.sides.lanes.now) a.job.settings.alphabet (length (picked there))) (sym (part_to_end there.candidates_in.new.counts at))
    (spare c.requires.splittable (prop there) (there.candidates_in.ensures.zeros ∙ c.loop-prop.invariant.space)))

pub overflow_cast-prop : goal.overflow_cast-prop
overflow_cast-prop c = record { fits = omega (arith, below c.args.job.settings.allow_wp _ c.property_count.ensures c.loop-prop.prop-index c.loop-prop-test.true) }

pub loop-prop-preserved : goal.loop-prop-preserved
loop-prop-preserved c = let there = (goal.at.loop-prop-preserved c).After-candidates_in in
    let here = (goal.at.loop-prop-preserved c).In-Some in
    let a = c.args in
    let width = length there.candidates_in.new.counts - (4096 + 14 * c.args.node.alphabet) in
    let plan = c.in-Some.ensures.some in
    turn-scored a.span.props.now a.span.tok.now a.span.first a.span.end (preds_of a.sides.lanes.now) a.job.logs.now a.node.alphabet a.job.settings.max_candidates
    (length (take c.property_count.result table)) a.counts.now c.requires.splittable.node.tokens.order (few c.args.job.settings.allow_wp _ c.property_count.ensures) c.loop-prop.invariant c.loop-prop-test.true
    _ (placed c.args.job.settings.allow_wp _ c.property_count.ensures c.loop-prop.prop-index c.loop-prop-test.true)
    (ap (put_mid (4096 + 14 * c.args.node.alphabet) width there.candidates_in.new.counts) c.score_property-score.ensures.zeros ∙ put_same (4096 + 14 * c.args.node.alphabet) width there.candidates_in.new.counts ∙ there.candidates_in.ensures.zeros)
    (ap is_empty (sym (c.deref.ensures.0 ∙ c.candidates_in.ensures.answer)) ∙ plan.2) (sym c.is_repeated.ensures ∙ c.if-is_repeated.false)
    c.score_property-score.result
    (λ t rows rs same h. let mine = span_rows a.span.first a.span.end a.span.props.now a.span.tok.now rows rs in
    c.score_property-score.ensures.answer t rows rs same h ∙ ap (λ (q : ℕ). score_of t a.job.logs.now (preds_of a.sides.lanes.now) q mine c.in-Some.plan.cands.now) plan.0
    ∙ ap (score_of t a.job.logs.now (preds_of a.sides.lanes.now) (prop there) mine) (plan-is here))
    c.better_of-best.result c.better_of-best.ensures

pub returns-clause-answer : goal.returns-clause-answer
returns-clause-answer c = let a = c.args in λ rows rs h.
    turn_end a.span.props.now a.span.tok.now a.span.first a.span.end (preds_of a.sides.lanes.now) a.job.logs.now a.node.alphabet a.job.settings.max_candidates
    (length (take c.property_count.result table)) a.counts.now c.loop-prop.invariant c.loop-prop-test.false (settings_of a.job.settings) rows rs (sym c.requires.alphabet) refl ((gone_over c.args.job.settings.allow_wp _ c.property_count.ensures).0 ∙ c.property_count.ensures) h
