-- `flat::count_groups` meets its contract: the rows that were yielded are counted, and the others are left. Assumes nothing.
use borrow.Author.Rules.{rules}
use mathlib.Core.Path.{◌≡◌, ap, ◌∙◌}
use mathlib.Core.List.{◌++◌, [], ◌∷◌}
use mathlib.Core.Logic.{inl, inr}
use Prim.Native.Nat.{ℕ, ◌+◌, ◌*◌}
use native.Mathlib.Omega.{arith}
use lib.IntN.{ℤ, pos}
use lib.ListN.{length, get_or, take, length-append}
use mir.Syntax.{w32}
use mir.Val.{of_z, to_z}
use mir.ValLaws.{to_z-of_z}
use Rattle.std.proofs.Common.{SFits}
use Rattle.model.specs.Flat.{clamped}
use Rattle.rows.specs.Flat.{row_count}
use Rattle.rows.specs.Lent.{flat_seen}
use Rattle.folds.proofs.Chunks.{NextRow, next_row, no_row}
use Rattle.flat.proofs.Flat.{groups_start, sizes_fit, row_fits, groups_turn}
use Rattle.flat.proofs.count_groups.Goals as goal
use Rattle.flat.proofs.count_groups.Goals.{In-Some}

-- how many rows there are, and the row of this turn
abbrev all : In-Some → ℕ
all c = row_count (flat_seen c.args.rows)

abbrev row : In-Some → ℕ
row c = length c.loop-props.yielded

props : (c : In-Some) → NextRow 24 c.args.rows.props.now (all c) (row c) c.in-Some.props.now c.next.new.self.a.rest.now
props c = let inv = c.loop-props.invariant in
    let steps = c.in-Some.ensures.steps.0 in
    next_row _ _ _ (omega arith) (omega arith) _ _ _ _ inv.0 inv.2 steps.1.0 (steps.1.1 ∙ inv.1)

tokens : (c : In-Some) → NextRow 14 c.args.rows.tok.now (all c) (row c) c.in-Some.tokens.now c.next.new.self.b.rest.now
tokens c = let inv = c.loop-props.invariant in
    let steps = c.in-Some.ensures.steps.1 in
    next_row _ _ _ (omega arith) (omega arith) _ _ _ _ inv.0 inv.4 steps.1.0 (steps.1.1 ∙ inv.3)

-- the row's group
own : (v : ℤ) (g : ℕ) → SFits w32 v → g ≡ clamped (to_z w32 (of_z w32 v)) → g ≡ clamped v
own v g fits is = rw (to_z-of_z w32 v fits) at is

pub loop-props-init : goal.loop-props-init
loop-props-init c = let given = c.into_iter-props-iterator.ensures.into_iter_gives in
    let zipped = c.zip-rows.ensures in
    let props = c.chunks_exact.ensures in
    let tokens = c.chunks_exact-2.ensures in
    let left : (w : ℕ) → c.count-count.result * w ≡ row_count (flat_seen c.args.rows) * w = λ w. ap (λ (n : ℕ). n * w) c.count-count.ensures in
    rw (given, zipped.first, zipped.second) (
      omega arith,
      props.size,
      props.rest ∙ ap (λ (k : ℕ). take k c.args.rows.props.now) (left 24),
      tokens.size,
      tokens.rest ∙ ap (λ (k : ℕ). take k c.args.rows.tok.now) (left 14),
      groups_start _ _ c.requires.rows_fit _ _ c.requires.groups_empty,
    )

pub bump-requires : goal.bump-requires
bump-requires c = let here = (goal.at.bump-requires c).In-Some in
    let is = own (get_or c.in-Some.props.now 0 (pos 0)) c.group_of-group.result (search rules) c.group_of-group.ensures in
    sizes_fit _ _ c.requires.rows_fit (row here) _ _ _ _ (props here) (tokens here) _ _ c.loop-props.invariant.5 _ is

pub overflow_mul-group : goal.overflow_mul-group
overflow_mul-group c = let here = (goal.at.overflow_mul-group c).In-Some in
    let is = own (get_or c.in-Some.props.now 0 (pos 0)) c.group_of-group.result (search rules) c.group_of-group.ensures in
    let fits = row_fits _ _ c.requires.rows_fit (row here) _ _ _ _ (props here) (tokens here) _ _ c.loop-props.invariant.5 _ is (c.in-Some.ensures.steps.1.1.1 ∙ c.loop-props.invariant.3) in
    omega (arith, fits.room)

pub count_row-requires : goal.count_row-requires
count_row-requires c = let here = (goal.at.count_row-requires c).In-Some in
    let is = own (get_or c.in-Some.props.now 0 (pos 0)) c.group_of-group.result (search rules) c.group_of-group.ensures in
    row_fits _ _ c.requires.rows_fit (row here) _ _ _ _ (props here) (tokens here) _ _ c.loop-props.invariant.5 _ is (c.in-Some.ensures.steps.1.1.1 ∙ c.loop-props.invariant.3)

pub loop-props-preserved : goal.loop-props-preserved
loop-props-preserved c = let here = (goal.at.loop-props-preserved c).In-Some in
    let inv = c.loop-props.invariant in
    let is = own (get_or c.in-Some.props.now 0 (pos 0)) c.group_of-group.result (search rules) c.group_of-group.ensures in
    let turn = groups_turn _ _ c.requires.rows_fit (row here) _ _ _ _ (props here) (tokens here) _ _ inv.5 _ is in
    let next : length (c.loop-props.yielded ++ (c.in-Some.props, c.in-Some.tokens) ∷ []) ≡ row here + 1 = omega (arith, length-append c.loop-props.yielded ((c.in-Some.props, c.in-Some.tokens) ∷ [])) in
    let steps = c.in-Some.ensures.steps in
    rw next (omega (arith, (props here).below), steps.0.0 ∙ inv.1, (props here).more, steps.1.0 ∙ inv.3, (tokens here).more, turn _ _ c.bump.ensures c.count_row.ensures)

pub returns : goal.returns
returns c = let inv = c.loop-props.invariant in
    let n = row_count (flat_seen c.args.rows) in
    let fit = c.requires.rows_fit in
    let last : length c.loop-props.yielded ≡ n = elim c.in-None.ensures.steps [
      | inl z ↦ no_row 24 c.args.rows.props.now n (omega arith) (omega arith) _ _ inv.0 inv.2 (omega (arith, z.1.1.0, inv.1))
      | inr z ↦ no_row 14 c.args.rows.tok.now n (omega arith) (omega (arith, fit.toks)) _ _ inv.0 inv.4 (omega (arith, z.1.1.0, inv.3))
    ] in
    rw last at inv.5
