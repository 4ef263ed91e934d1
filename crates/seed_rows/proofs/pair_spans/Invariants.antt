-- `seed_rows::pair_spans` meets its contract. The invariant: the places passed hold their pairs, and those behind the last are unchanged. Assumes nothing.
use Rattle.std.proofs.Common.{◌≡◌, ℕ, ◌<◌, length, get_or, drop}
use Rattle.layout.specs.Records.{no_span_record}
use Rattle.seed_rows.proofs.pair_spans.Given as goal

abbrev pub invariant-loop-k : goal.invariant-loop-k
invariant-loop-k l = (length l.spans ≡ length l.initial.spans) × (drop (length l.firsts) l.spans ≡ drop (length l.firsts) l.initial.spans)
    × ((i : ℕ) → i < length l.yielded → get_or l.spans i no_span_record ≡ record { first = get_or l.firsts i 0; end = get_or l.ends i 0 })
