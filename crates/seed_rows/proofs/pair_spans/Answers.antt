-- `seed_rows::pair_spans` meets its contract. Assumes nothing.
use Rattle.std.proofs.Common.{◌≡◌, ℕ, ◌+◌, ◌<◌, List, length, get_or, set, refl, arith, ap, ◌∙◌, length-set, get_or-set_other, get_or-set_same}
use native.Mathlib.Decide.{ℕ_discrete}
use Rattle.std.specs.List.{zip, enumerate_from}
use Rattle.std.proofs.lemmas.List.{drop-set-lt, get_or_default, length_push}
use Rattle.std.proofs.lemmas.Iterator.{YieldsList-from_slice, YieldsList-from_zip}
use Rattle.std.proofs.lemmas.Iterator.Consumers.{YieldsList-from_enumerate, YieldsList-turn}
use Rattle.std.proofs.lemmas.List.FromFn.{length-enumerate_from, get_or-enumerate_from}
use Rattle.std.proofs.lemmas.Slice.Zip.{length-zip, get_or-zip}
use Rattle.layout.specs.Records.{no_span_record}
use Rattle.layout.specs.declared.Span.{Span}
use Rattle.seed_rows.proofs.pair_spans.Goals as goal
use Rattle.seed_rows.proofs.pair_spans.Goals.{In-Some}

-- the item at n has the numbers that stand there
item-at : (firsts ends : List ℕ) (n k a b : ℕ) → length ends ≡ length firsts → n < length (enumerate_from 0 (zip firsts ends))
    → ◌≡◌ {A = ℕ × (ℕ × ℕ)} (k, (a, b)) (get_or (enumerate_from 0 (zip firsts ends)) n (k, (a, b)))
    → (n < length firsts) × (k ≡ n) × (a ≡ get_or firsts n 0) × (b ≡ get_or ends n 0)
item-at firsts ends n k a b many h e =
    let inside : n < length (zip firsts ends) = omega (arith, length-enumerate_from 0 (zip firsts ends)) in
    let long : n < length firsts = omega (arith, length-zip firsts ends) in
    let room : n < length ends = omega arith in
    let all = e ∙ get_or-enumerate_from 0 (zip firsts ends) n (k, (a, b)) inside ∙ ap (λ (p : ℕ × ℕ). (0 + n, p)) (get_or-zip firsts ends n (a, b) long room) in
    let number = ap (λ (p : ℕ × (ℕ × ℕ)). p.0) all in (
      long,
      omega arith,
      ap (λ (p : ℕ × (ℕ × ℕ)). p.1.0) all ∙ get_or_default firsts n a 0 long,
      ap (λ (p : ℕ × (ℕ × ℕ)). p.1.1) all ∙ get_or_default ends n b 0 room,
    )

item : (c : In-Some) → let n = length c.loop-k.yielded in
    (n < length c.args.firsts.now) × (c.in-Some.k ≡ n) × (c.in-Some.first.now ≡ get_or c.args.firsts.now n 0) × (c.in-Some.end.now ≡ get_or c.args.ends.now n 0)
item c =
    let firsts = c.args.firsts.now in
    let ends = c.args.ends.now in
    let t = YieldsList-turn {s = c.into_iter-k-iterator.result} (YieldsList-from_enumerate (YieldsList-from_zip (YieldsList-from_slice firsts cc) (YieldsList-from_slice ends cc)) cc)
    c.loop-k.yielded c.loop-k.k-iterator c.loop-k.yielded_by c.next.result c.next.new.self (c.in-Some.k, (c.in-Some.first, c.in-Some.end)) c.in-Some.is c.next.ensures.steps in
    item-at firsts ends (length c.loop-k.yielded) c.in-Some.k c.in-Some.first.now c.in-Some.end.now c.requires.many t.0 t.1

-- one pair more stands
pair-more : (firsts ends : List ℕ) (spans : List Span) (n k a b i : ℕ) → n < length spans → k ≡ n → a ≡ get_or firsts n 0 → b ≡ get_or ends n 0
    → (i < n → get_or spans i no_span_record ≡ record { first = get_or firsts i 0; end = get_or ends i 0 }) → i < n + 1
    → get_or (set spans k (record { first = a; end = b })) i no_span_record ≡ record { first = get_or firsts i 0; end = get_or ends i 0 }
pair-more firsts ends spans n k a b i room e f g before h =
    elim (ℕ_discrete i n) [
      | yes here ↦ rw (e, f, g, here, get_or-set_same spans n (record { first = get_or firsts n 0; end = get_or ends n 0 }) no_span_record room) refl
      | no other ↦ rw (e, get_or-set_other spans n i (record { first = a; end = b }) no_span_record other) (before (omega arith))
    ]

pub loop-k-preserved : goal.loop-k-preserved
loop-k-preserved c =
    let l = c.loop-k in
    let firsts = c.args.firsts.now in
    let ends = c.args.ends.now in
    let p = item (goal.at.loop-k-preserved c).In-Some in
    let pair : Span = record { first = c.in-Some.first.now; end = c.in-Some.end.now } in (
      length-set l.spans c.in-Some.k pair ∙ l.invariant.0,
      drop-set-lt (length firsts) l.spans c.in-Some.k pair (omega (arith, p.0, p.1)) ∙ l.invariant.1,
      λ i h. pair-more firsts ends l.spans (length l.yielded) c.in-Some.k c.in-Some.first.now c.in-Some.end.now i (omega (arith, p.0, l.invariant.0, c.requires.places)) p.1 p.2 p.3
          (l.invariant.2 i) (rw length_push at h),
    )
