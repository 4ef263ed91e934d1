-- `score_bins::scan_rows` meets its contract: the rows passed are counted. Assumes nothing.
use mathlib.Core.Path.{◌≡◌}
use Prim.Native.Nat.{◌≤◌, ◌-◌, ◌*◌}
use lib.ListN.{length, take, drop}
use Rattle.std.specs.Iterator.Adapters.{zip_first, zip_second}
use Rattle.std.specs.Slice.Iter.{chunks_exact_rest, chunks_exact_size}
use Rattle.score_bins.specs.Bins.{tallied_rows, bin_cell}
use Rattle.score_bins.proofs.scan_rows.Given as goal

abbrev pub invariant-loop-values : goal.invariant-loop-values
invariant-loop-values l =
    (goal.iterator-loop-values).can_next l.values-iterator ×
    (goal.iterator-loop-values).is_finite l.values-iterator ×
    (chunks_exact_size (zip_first l.values-iterator) ≡ 24) ×
    (chunks_exact_size (zip_second l.values-iterator) ≡ 14) ×
    (length l.yielded ≤ l.span.end - l.span.first) ×
    (chunks_exact_rest (zip_first l.values-iterator) ≡ drop (length l.yielded * 24) (take (l.span.end * 24 - l.span.first * 24) (drop (l.span.first * 24) l.span.props.now))) ×
    (chunks_exact_rest (zip_second l.values-iterator) ≡ drop (length l.yielded * 14) (take (l.span.end * 14 - l.span.first * 14) (drop (l.span.first * 14) l.span.tok.now))) ×
    (l.cells ≡ tallied_rows (bin_cell l.span.props.now l.span.tok.now l.span.first l.plan.prop l.plan.cands.now l.windows.lanes.now l.windows.stride) (length l.windows.lanes.now) (length l.yielded) l.initial.cells) ×
    (length l.cells ≡ length l.initial.cells)
