-- Two results that differ by one split, written into the same lent lists. Assumes nothing.
use mathlib.Core.Path.{◌≡◌, refl, sym, ap, ◌∙◌}
use mathlib.Core.Logic.{◌⊎◌, inl, inr}
use Prim.Native.Nat.{ℕ, suc, ◌<◌}
use native.Mathlib.Omega.{arith}
use mathlib.Core.Bool.{Bool}
use lib.ListN.{length, set, length-map}
use Rattle.model.specs.Meter.{Meter}
use Rattle.model.specs.Tree.{split, leaf, Record, blank_record}
use Rattle.model.specs.Learn.{Result}
use Rattle.model.specs.Lent.{stored_node, Lent, lent_after}
use Rattle.model.specs.Operations.{tree_of}
use Rattle.model.specs.Promise.{span_at, record_at, OneMore}
use Rattle.model.proofs.Extended.{length-extended, map-extended}
use Rattle.model.proofs.Results.{record_of_result, span_of_result, ResultOneMore}
use Rattle.model.proofs.Written.{written-more, written-split}
use Rattle.model.proofs.AtExit.{Fits, rows_at, record_at_lem, span_at_lem, as_long, leaf_from}

module _ {M : Meter} {uses : Bool} {x : Lent M} {most more : ℕ} {a b : Result M} (fa : Fits uses x most a) (fb : Fits uses x more b) (one : ResultOneMore uses a b) where
  -- the written entries are two more, and have room
  written : length b.records ≡ suc (suc a.count)
  written = ap length one.records ∙ length-extended a.records one.number _ _ _ blank_record ∙ ap (λ (n : ℕ). suc (suc n)) (sym one.whole.0)

  node_room : suc a.count < length x.nodes
  node_room = omega (arith, written, fb.kept.few, fb.node_room)

  span_room : suc a.count < length x.spans
  span_room = omega (arith, written, fb.kept.few, fb.span_room)

  record-was : record_at (lent_after a x) one.number ≡ record_of_result a one.number
  record-was = record_at_lem fa one.number one.was_leaf.0

  info-was : (record_at (lent_after a x) one.number).info ≡ (record_of_result a one.number).info
  info-was = ap (λ (w : Record M). w.info) record-was

  depth-was : (record_at (lent_after a x) one.number).depth ≡ (record_of_result a one.number).depth
  depth-was = ap (λ (w : Record M). w.depth) record-was

  span-was : span_at (lent_after a x) one.number ≡ span_of_result a one.number
  span-was = span_at_lem fa one.number one.was_leaf.0

  nodes-after : (lent_after b x).nodes ≡ set (set (set (lent_after a x).nodes one.number
      (stored_node (split one.prop one.val a.count (suc a.count)) (record_of_result a one.number).info (record_of_result a one.number).depth)) a.count
      (stored_node leaf one.gt (suc (record_of_result a one.number).depth))) (suc a.count) (stored_node leaf one.le (suc (record_of_result a one.number).depth))
  unfolding lent_after
  nodes-after = search (arith, length-map, map-extended, written-split)

  spans-after : (lent_after b x).spans ≡ set (set (lent_after a x).spans a.count (record { first = (span_of_result a one.number).first; end = one.middle }))
      (suc a.count) (record { first = one.middle; end = (span_of_result a one.number).end })
  unfolding lent_after
  spans-after = rw one.spans (written-more a.spans x.spans a.count _ _ one.whole.1 span_room)

  one_more_at : OneMore uses (tree_of a) (lent_after a x) (tree_of b) (lent_after b x)
  unfolding lent_after
  one_more_at = record {
    number = one.number;
    prop = one.prop;
    val = one.val;
    was_leaf = leaf_from fa one.number one.was_leaf;
    gt = one.gt;
    le = one.le;
    middle = one.middle;
    room = (rw (as_long fa).nodes node_room, rw (as_long fa).spans span_room);
    nodes = rw (info-was, depth-was) nodes-after;
    spans = rw span-was spans-after;
    between = rw span-was one.between;
    node_count = one.count;
    leaf_count_lem = one.leaves;
    bits = rw info-was one.bits;
    flat = one.flat;
    same_rows = rw (span-was, rows_at fa, rows_at fb) one.same_rows;
    elsewhere = λ i h. rw (rows_at fa, rows_at fb) (one.elsewhere i (rw span-was at h));
    lengths = ((as_long fb).props ∙ sym (as_long fa).props, (as_long fb).toks ∙ sym (as_long fa).toks, (as_long fb).res ∙ sym (as_long fa).res);
    queue = refl;
    counts = refl;
  }

  -- it is the same split
  pub one_more_so : (more : OneMore uses (tree_of a) (lent_after a x) (tree_of b) (lent_after b x)) × (more.number ≡ one.number) × (more.prop ≡ one.prop) × (more.val ≡ one.val)
  unfolding one_more_at
  one_more_so = (one_more_at, refl, refl, refl)

-- alike in everything, or in everything but one more split
abbrev pub EqualOrOneMore : {M : Meter} → Bool → Result M → Result M → Type 0
EqualOrOneMore uses a b = (b ≡ a) ⊎ ResultOneMore uses a b

pub one_more_or_alike : {M : Meter} {uses : Bool} {x : Lent M} {most more : ℕ} {a b : Result M} → Fits uses x most a → Fits uses x more b → EqualOrOneMore uses a b
    → ((tree_of b ≡ tree_of a) × (lent_after b x ≡ lent_after a x)) ⊎ OneMore uses (tree_of a) (lent_after a x) (tree_of b) (lent_after b x)
one_more_or_alike {M} {x = x} fa fb (inl e) = inl (ap tree_of e, ap (λ (r : Result M). lent_after r x) e)
one_more_or_alike fa fb (inr one) = inr (one_more_at fa fb one)
