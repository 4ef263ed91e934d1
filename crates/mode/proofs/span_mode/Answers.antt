-- `mode::span_mode` meets its contract: no rows, a spread that is too wide, or the residual that occurs oftenest. Assumes nothing.
use mathlib.Core.Path.{◌≡◌, sym, ◌∙◌}
use mathlib.Core.List.{List}
use Prim.Native.Nat.{ℕ, ◌+◌, ◌^◌, ◌<◌}
use Rattle.std.proofs.Common.{rules}
use native.Mathlib.Omega.{arith}
use Rattle.std.specs.Ordering.{int_cmp}
use lib.IntN.{ℤ}
use lib.Signed.{mag}
use mir.Syntax.{w32}
use mir.Val.{to_z, of_z}
use mir.ValLaws.{to_z-of_z}
use Rattle.model.specs.Mode.{lowest, highest, width}
use Rattle.folds.specs.declared.Range.{Range}
use Rattle.folds.specs.Range as folds
use Rattle.folds.specs.Range.{less_by}
use Rattle.folds.proofs.Less.{less_int}
use Rattle.mode.specs.Counted.{offset_of}
use Rattle.mode.proofs.Spread.{top, narrow, lowest-same, highest-same}
use Rattle.mode.proofs.Modes.{mode-none, mode_far, mode-near}
use Rattle.mode.proofs.span_mode.Goals as goal

-- the range that is found of a residual and the others
record Found (r : ℤ) (rs : List ℤ) (range : Range ℤ) : Type 0 where
  pub low_is : range.low ≡ folds.lowest (less_by int_cmp) r rs
  pub high_is : range.high ≡ folds.highest (less_by int_cmp) r rs
  pub low_fits : mag range.low < 2 ^ 31
  pub high_fits : mag range.high < 2 ^ 31

module _ {r : ℤ} {rs : List ℤ} {range : Range ℤ} (f : Found r rs range) where
  low_found : range.low ≡ lowest r rs
  low_found = f.low_is ∙ (λ i. folds.lowest (less_int i) r rs) ∙ lowest-same r rs

  high_found : range.high ≡ highest r rs
  high_found = f.high_is ∙ (λ i. folds.highest (less_int i) r rs) ∙ highest-same r rs

  low-is : to_z w32 (of_z w32 range.low) ≡ lowest r rs
  low-is = to_z-of_z w32 range.low (record { sfits = f.low_fits }) ∙ low_found

  high_is : to_z w32 (of_z w32 range.high) ≡ highest r rs
  high_is = to_z-of_z w32 range.high (record { sfits = f.high_fits }) ∙ high_found

  low_held : mag (lowest r rs) < 2 ^ 31
  low_held = rw low_found at f.low_fits

  high_held : mag (highest r rs) < 2 ^ 31
  high_held = rw high_found at f.high_fits

  module _ (n : ℕ) (e : n ≡ offset_of (to_z w32 (of_z w32 range.low)) (to_z w32 (of_z w32 range.high))) where
    offset_at : n ≡ offset_of (lowest r rs) (highest r rs)
    offset_at = rw (low-is, high_is) at e

    width_is : n + 1 ≡ width r rs
    unfolding width
    width_is = omega (arith, offset_at)

pub returns-in_default-clause-answer : goal.returns-in_default-clause-answer
returns-in_default-clause-answer c = mode-none c.args.res.now c.in_default.ensures.cases

pub offset-width-requires : goal.offset-width-requires
offset-width-requires c =
    let read = to_z-of_z w32 c.in-Some.field-0-0.now (search rules) in
    let f : Found c.in-Some.field-0-0.now c.in-Some.others.now c.range_of-low.result = record { low_is = rw read at c.range_of-low.ensures.low; high_is = rw read at c.range_of-low.ensures.high; low_fits = omega arith; high_fits = omega arith } in
    rw (low-is f, high_is f) (top c.in-Some.field-0-0.now c.in-Some.others.now (low_held f) (high_held f))

pub returns-then-width-gt-MODAL_MAX_SPAN-clause-answer : goal.returns-then-width-gt-MODAL_MAX_SPAN-clause-answer
returns-then-width-gt-MODAL_MAX_SPAN-clause-answer c =
    let read = to_z-of_z w32 c.in-Some.field-0-0.now (search rules) in
    let f : Found c.in-Some.field-0-0.now c.in-Some.others.now c.range_of-low.result = record { low_is = rw read at c.range_of-low.ensures.low; high_is = rw read at c.range_of-low.ensures.high; low_fits = omega arith; high_fits = omega arith } in
    let w = width_is f c.offset-width.result c.offset-width.ensures in
    rw c.in-Some.ensures.cases.0 (sym (mode_far c.in-Some.field-0-0.now c.in-Some.others.now (omega arith)))

pub commonest-requires-clause-narrow : goal.commonest-requires-clause-narrow
commonest-requires-clause-narrow c =
    let read = to_z-of_z w32 c.in-Some.field-0-0.now (search rules) in
    let f : Found c.in-Some.field-0-0.now c.in-Some.others.now c.range_of-low.result = record { low_is = rw read at c.range_of-low.ensures.low; high_is = rw read at c.range_of-low.ensures.high; low_fits = omega arith; high_fits = omega arith } in
    let w = width_is f c.offset-width.result c.offset-width.ensures in
    rw (low-is f, w, c.in-Some.ensures.cases.0) (narrow c.in-Some.field-0-0.now c.in-Some.others.now (high_held f) (omega arith))

pub returns-clause-answer : goal.returns-clause-answer
returns-clause-answer c =
    let read = to_z-of_z w32 c.in-Some.field-0-0.now (search rules) in
    let f : Found c.in-Some.field-0-0.now c.in-Some.others.now c.range_of-low.result = record { low_is = rw read at c.range_of-low.ensures.low; high_is = rw read at c.range_of-low.ensures.high; low_fits = omega arith; high_fits = omega arith } in
    let w = width_is f c.offset-width.result c.offset-width.ensures in
    let near = mode-near c.in-Some.field-0-0.now c.in-Some.others.now (omega arith) in
    let found = rw (low-is f, w, c.in-Some.ensures.cases.0) at c.commonest.ensures.answer in
    rw c.in-Some.ensures.cases.0 (to_z-of_z w32 c.commonest.result (record { sfits = c.commonest.type_inv }) ∙ found ∙ sym near)
