-- `score_bins::scan_rows` meets its contract: the rows passed are counted. Assumes nothing.
use borrow.Author.Rules.{rules}
use mathlib.Core.Path.{◌≡◌, refl, sym, ap, ◌∙◌}
use mathlib.Core.Logic.{inl, inr}
use mathlib.Core.List.{List}
use Prim.Native.Nat.{ℕ, ◌≤◌, ◌<◌, ◌-◌, ◌+◌, ◌*◌}
use native.Mathlib.Omega.{arith}
use mir.Syntax.{w32}
use mir.Val.{of_z, to_z}
use mir.ValLaws.{to_z-of_z}
use Rattle.std.proofs.Common.{SFits}
use lib.IntN.{ℤ, pos}
use lib.ListN.{length, get_or, take, drop, length-drop}
use Rattle.std.specs.Iterator.Adapters.{zip_first, zip_second}
use Rattle.std.specs.Slice.Iter.{chunks_exact_rest, chunks_exact_size}
use Rattle.cost.specs.Histograms.{tallied}
use Rattle.cost.proofs.Blocks.{part_end, tallied_ext}
use Rattle.score_bins.specs.Bins.{bin_of, bin_at, bin_cell}
use Rattle.score_bins.proofs.Tallies.{rows_none, rows_more, rows-turn}
use Rattle.score_bins.proofs.Binning.{bin_of_le, bin-room, row-cell, in_lanes}
use Rattle.score_bins.proofs.Rows.{Chunk, chunk, part_at, part-length, yielded-more}
use Rattle.score_bins.proofs.scan_rows.Goals as goal
use Rattle.score_bins.proofs.scan_rows.Goals.{After-bin_for-bin}

bin-le : (cands props : List ℤ) (prop row : ℕ) → bin_at cands prop props row ≤ length cands
unfolding bin_at
bin-le cands props prop row = bin_of_le cands (get_or props (row * 24 + prop) (pos 0))

-- the bin that the call found
found : (cands props : List ℤ) (prop row bin : ℕ) (v : ℤ) → SFits w32 v → v ≡ get_or props (row * 24 + prop) (pos 0) → bin ≡ bin_of cands (to_z w32 (of_z w32 v)) → bin ≡ bin_at cands prop props row
unfolding bin_at
found cands props prop row bin v fits e is = rw (to_z-of_z w32 v fits, e) at is

abbrev turn : After-bin_for-bin → ℕ
turn c = length c.loop-values.yielded

-- the row's properties, and its tokens
values : (c : After-bin_for-bin) → Chunk (pos 0) 24 (take (c.args.span.end * 24 - c.args.span.first * 24) (drop (c.args.span.first * 24) c.args.span.props.now)) (turn c) c.in-Some.values.now
    (chunks_exact_rest (zip_first c.next.new.self))
values c = let steps = c.in-Some.ensures.steps in let inv = c.loop-values.invariant in chunk (pos 0) 24 _ (turn c) _ _ (omega arith) (sym inv.5 ∙ steps.0.1.0) (steps.0.1.1 ∙ inv.2)

toks : (c : After-bin_for-bin) → Chunk 0 14 (take (c.args.span.end * 14 - c.args.span.first * 14) (drop (c.args.span.first * 14) c.args.span.tok.now)) (turn c) c.in-Some.toks.now
    (chunks_exact_rest (zip_second c.next.new.self))
toks c = let steps = c.in-Some.ensures.steps in let inv = c.loop-values.invariant in chunk 0 14 _ (turn c) _ _ (omega arith) (sym inv.6 ∙ steps.1.1.0) (steps.1.1.1 ∙ inv.3)

taken : (c : After-bin_for-bin) → turn c < c.args.span.end - c.args.span.first
taken c =
    let there = c.requires.rows_there in
    omega (arith, (values c).there, part-length (pos 0) 24 c.args.span.props.now c.args.span.first c.args.span.end there.0 (omega (arith, there.0, there.1)))

-- they are those of the span's row
value-at : (c : After-bin_for-bin) → get_or c.in-Some.values.now c.args.plan.prop (pos 0) ≡ get_or c.args.span.props.now ((c.args.span.first + turn c) * 24 + c.args.plan.prop) (pos 0)
value-at c =
    let prop = c.requires.prop_lt_props_per_row.0 in
    (values c).at c.args.plan.prop prop ∙ part_at (pos 0) 24 c.args.span.props.now c.args.span.first c.args.span.end c.requires.rows_there.0 (turn c) (omega (arith, taken c)) c.args.plan.prop prop

tok-at : (c : After-bin_for-bin) (p : ℕ) → p < 14 → get_or c.in-Some.toks.now p 0 ≡ get_or c.args.span.tok.now ((c.args.span.first + turn c) * 14 + p) 0
tok-at c p h = (toks c).at p h ∙ part_at 0 14 c.args.span.tok.now c.args.span.first c.args.span.end c.requires.rows_there.0 (turn c) (omega (arith, taken c)) p h

long : (c : After-bin_for-bin) → length c.in-Some.toks.now ≡ 14
long c = c.in-Some.ensures.steps.1.1.1 ∙ c.loop-values.invariant.3

bin : (c : After-bin_for-bin) → c.bin_for-bin.result ≡ bin_at c.args.plan.cands.now c.args.plan.prop c.args.span.props.now (c.args.span.first + length c.loop-values.yielded)
bin c = found _ _ _ _ _ _ (search rules) (value-at c) c.bin_for-bin.ensures

pub loop-values-init : goal.loop-values-init
loop-values-init c =
    let first : chunks_exact_size (zip_first c.into_iter-values-iterator.result) ≡ 24 = search rules in
    let second : chunks_exact_size (zip_second c.into_iter-values-iterator.result) ≡ 14 = search rules in
    ((omega arith, omega arith), tt, first, second, omega arith, search rules, search rules, sym (rows_none _ _ _), refl)

-- its bin is there
bin-end : (c : After-bin_for-bin) → c.bin_for-bin.result * c.args.windows.stride + c.args.windows.stride ≤ (length c.args.plan.cands.now + 1) * c.args.windows.stride
bin-end c =
    let few = bin-le c.args.plan.cands.now c.args.span.props.now c.args.plan.prop (c.args.span.first + turn c) in
    part_end c.bin_for-bin.result (length c.args.plan.cands.now + 1) c.args.windows.stride (omega (arith, bin c))

pub overflow_mul-bin : goal.overflow_mul-bin
overflow_mul-bin c = omega (arith, bin-end (goal.at.overflow_mul-bin c).After-bin_for-bin, c.requires.prop_lt_props_per_row.2)

pub scan_row-requires-clause-in_lanes : goal.scan_row-requires-clause-in_lanes
scan_row-requires-clause-in_lanes c =
    let here = (goal.at.scan_row-requires-clause-in_lanes c).After-bin_for-bin in
    in_lanes c.args.span.props.now c.args.span.tok.now c.args.span.first (c.args.span.end - c.args.span.first) c.args.plan.prop c.args.plan.cands.now c.args.windows.lanes.now c.args.windows.stride
    c.requires.lanes (turn here) (taken here) c.in-Some.toks.now (long here) (tok-at here) c.bin_for-bin.result (bin here) (length c.loop-values.cells)
    (omega (arith, c.loop-values.invariant.8, c.requires.prop_lt_props_per_row.2))

pub scan_row-requires-clause-low : goal.scan_row-requires-clause-low
scan_row-requires-clause-low c =
    let here = (goal.at.scan_row-requires-clause-low c).After-bin_for-bin in
    let a = c.args in
    let n = a.span.end - a.span.first in
    let room = bin-room a.span.props.now a.span.tok.now a.span.first n a.plan.prop a.plan.cands.now a.windows.lanes.now a.windows.stride c.requires.lanes in
    rows-turn (bin_cell a.span.props.now a.span.tok.now a.span.first a.plan.prop a.plan.cands.now a.windows.lanes.now a.windows.stride) (length a.windows.lanes.now) (turn here) n a.cells.now
    c.loop-values.cells (λ k j l m. omega (arith, room k j l m, c.requires.prop_lt_props_per_row.2)) c.requires.low c.requires.lanes.few c.requires.rows_there.1.few (taken here)
    c.loop-values.invariant.7

pub loop-values-preserved : goal.loop-values-preserved
loop-values-preserved c =
    let here = (goal.at.loop-values-preserved c).After-bin_for-bin in
    let steps = c.in-Some.ensures.steps in
    let inv = c.loop-values.invariant in
    let a = c.args in
    let n = turn here in
    let first = steps.0.0 ∙ inv.2 in
    let second = steps.1.0 ∙ inv.3 in
    let cell : ℕ → ℕ → ℕ = bin_cell a.span.props.now a.span.tok.now a.span.first a.plan.prop a.plan.cands.now a.windows.lanes.now a.windows.stride in
    let lanes = length a.windows.lanes.now in
    let same = row-cell a.span.props.now a.span.tok.now a.span.first (a.span.end - a.span.first) a.plan.prop a.plan.cands.now a.windows.lanes.now a.windows.stride
    c.requires.lanes n (taken here) c.in-Some.toks.now (long here) (tok-at here) c.bin_for-bin.result (bin here) in
    rw (yielded-more c.loop-values.yielded (c.in-Some.values, c.in-Some.toks)) (
      (omega (arith, first), omega (arith, second)),
      tt,
      first,
      second,
      omega (arith, taken here),
      (values here).left,
      (toks here).left,
      c.scan_row.ensures ∙ tallied_ext _ (cell n) lanes c.loop-values.cells same ∙ ap (tallied (cell n) lanes) inv.7 ∙ sym (rows_more cell lanes n a.cells.now),
      c.scan_row.auto.cells ∙ inv.8,
    )

-- fewer than a row's are left
passed : (m n : ℕ) {A : Type 0} (d : A) (xs : List A) (first end : ℕ) → first ≤ end → end * m ≤ length xs
    → length (drop (n * m) (take (end * m - first * m) (drop (first * m) xs))) < m → end * m - first * m < n * m + m
passed m n d xs first end o h l =
    omega (arith, length-drop (n * m) (take (end * m - first * m) (drop (first * m) xs)), part-length d m xs first end o h)

pub returns : goal.returns
returns c =
    let inv = c.loop-values.invariant in
    let a = c.args in
    let n = length c.loop-values.yielded in
    let there = c.requires.rows_there in
    let all : n ≡ a.span.end - a.span.first =
    elim c.in-None.ensures.steps [
      | inl s ↦ omega (arith, inv.4, passed 24 n (pos 0) a.span.props.now a.span.first a.span.end there.0 (omega (arith, there)) (omega (arith, ap length inv.5, s.1.0, inv.2)))
      | inr s ↦ omega (arith, inv.4, passed 14 n 0 a.span.tok.now a.span.first a.span.end there.0 (omega (arith, there)) (omega (arith, ap length inv.6, s.1.0, inv.3)))
    ] in
    rw all at inv.7
