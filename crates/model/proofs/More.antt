-- One step more: without pruning, a result either stays as it is or is the same with one leaf split. Assumes nothing.
use mathlib.Core.Path.{◌≡◌, refl, sym, ap, ◌∙◌}
use mathlib.Core.Logic.{◌⊎◌, inl, inr}
use Prim.Native.Nat.{ℕ, zero, suc, ◌+◌, ◌-◌, ◌≤◌, ◌<◌}
use native.Mathlib.Omega.{arith}
use mathlib.Core.Bool.{Bool, true, false, cond}
use mathlib.Core.List.{List, [], ◌∷◌, ◌++◌, map, map-append, append-nil}
use lib.ListN.{length, get_or, set, take, drop, replicate, length-map, get_or-map}
use lib.Dec.{T}
use Rattle.model.specs.Lists.{count_if}
use Rattle.model.specs.Meter.{Meter}
use Rattle.model.specs.Rows.{Row, Span, no_span, within}
use Rattle.model.specs.Mode.{fresh}
use Rattle.model.specs.Tree.{leaf, is_leaf, Record, blank_record}
use Rattle.model.specs.Job.{Offer, Job, prunes}
use Rattle.model.specs.Grow.{Entry, State, no_entry, tree_nodes, record_of, leaf_over, gt_leaf, le_leaf, become_split, grown_bits, split_at, step, steps}
use Rattle.model.specs.Settle.{settled}
use Rattle.model.specs.Learn.{Result, result_of, leaf_count, pruned, settled_state, finished}
use Rattle.model.specs.Kept.{entry_at, Invariant}
use Rattle.model.proofs.Results.{ResultOneMore}
use Rattle.model.proofs.Extended.{extended, length-extended, map-extended}
use Rattle.model.proofs.Counting.{count_append, count_set_out}
use Rattle.model.proofs.Paths.{T→true}
use Rattle.model.proofs.Slices.{put_back}
use Rattle.model.proofs.Invariant.{SplitOf, node_at, split_of}
use Rattle.model.proofs.Steps.{step_is, steps-keep}

span-is : (s : Span) (a b : ℕ) → s.first ≡ a → s.end ≡ b → s ≡ record { first = a; end = b }
span-is s a b p q = λ i. record { first = p i; end = q i }

-- ---- settling changes nothing where the tokens are fresh
module _ {M : Meter} where
  settled_same : (uses : Bool) (es : List (Entry M)) (rows : List Row)
      → ((k : ℕ) → k < length es → ((entry_at es k).span.first ≤ (entry_at es k).span.end) × (T (is_leaf (entry_at es k).node) → fresh uses (within (entry_at es k).span rows) ≡ within (entry_at es k).span rows))
      → settled uses es rows ≡ rows
  unfolding settled
  settled_same uses [] rows h = refl
  settled_same uses (e ∷ es) rows h =
      ap (settled uses es) (go (is_leaf e.node) (h 0 (omega arith)).1) ∙ settled_same uses es rows (λ k hk. h (suc k) (omega arith))
    where
      go : (b : Bool) → (T b → fresh uses (within e.span rows) ≡ within e.span rows)
          → cond b (take e.span.first rows ++ fresh uses (within e.span rows) ++ drop e.span.end rows) rows ≡ rows
      go true f = rw (f tt) (put_back e.span.first e.span.end rows (h 0 (omega arith)).0)
      go false f = refl

  -- ---- what is not pruned shows the grown tree as it is
  -- a state with no entry vacated
  unfoldable pub plain : State M → M.Total → Result M
  plain s flat = result_of s (length s.tree) flat

  pub finished-plain : (j : Job M) → prunes j ≡ false → (seeds : ℕ → Bool) (given : List Row) (s : State M) (flat : M.Total) → Invariant j.uses seeds given s
      → finished j s flat ≡ plain s flat
  unfolding finished settled_state pruned plain
  finished-plain j unpruned seeds given s flat inv = search (arith, settled_same)

  -- nothing is vacated
  all-entries : (s : State M) → s.tree ++ replicate (length s.tree - length s.tree) no_entry ≡ s.tree
  all-entries s = let z : length s.tree - length s.tree ≡ 0 = omega arith in rw z (append-nil s.tree)

  records-plain : (s : State M) (flat : M.Total) → (plain s flat).records ≡ map record_of s.tree
  unfolding plain result_of
  records-plain s flat = ap (map record_of) (all-entries s)

  spans-plain : (s : State M) (flat : M.Total) → (plain s flat).spans ≡ map (λ (e : Entry M). e.span) s.tree
  unfolding plain result_of
  spans-plain s flat = ap (map (λ (e : Entry M). e.span)) (all-entries s)

  set_same : {A : Type 0} (f : Entry M → A) (l : List (Entry M)) (i : ℕ) (x d : Entry M) → f x ≡ f (get_or l i d) → map f (set l i x) ≡ map f l
  set_same f [] i x d e = refl
  set_same {A} f (y ∷ ys) zero x d e = ap (λ (a : A). a ∷ map f ys) e
  set_same {A} f (y ∷ ys) (suc i) x d e = ap (λ (l : List A). f y ∷ l) (set_same f ys i x d e)

  -- b is a with leaf i split as o says
  abbrev pub SplitSo : Bool → ℕ → Offer M → Result M → Result M → Type 0
  SplitSo uses i o a b = (one : ResultOneMore uses a b) × (one.number ≡ i) × (one.prop ≡ o.prop) × (one.val ≡ o.val)

  -- ---- one split
  module _ (j : Job M) (seeds : ℕ → Bool) (given : List Row) (s : State M) (flat : M.Total) (inv : Invariant j.uses seeds given s) (i : ℕ) (inside : i < length s.tree)
      (was : T (is_leaf (entry_at s.tree i).node)) (o : Offer M) where
    abbrev e : Entry M
    e = entry_at s.tree i

    abbrev t : State M
    t = split_at j s i o

    abbrev gt : Entry M
    gt = gt_leaf j s.rows e o

    abbrev le : Entry M
    le = le_leaf j s.rows e o

    facts : SplitOf j.uses s t i o gt le
    facts = split_of j seeds given s inv i inside was o

    leaf-span : get_or (plain s flat).spans i no_span ≡ e.span
    leaf-span = ap (λ (l : List Span). get_or l i no_span) (spans-plain s flat) ∙ get_or-map (λ (e : Entry M). e.span) s.tree i no_entry

    record_is : get_or (plain s flat).records i blank_record ≡ record_of e
    record_is = ap (λ (l : List (Record M)). get_or l i blank_record) (records-plain s flat) ∙ get_or-map record_of s.tree i no_entry

    -- the tree with one leaf split
    tree_is : t.tree ≡ extended s.tree i (become_split e o (length s.tree)) gt le
    unfolding split_at
    tree_is = refl

    records-more : (plain t flat).records ≡ set (plain s flat).records i (record_of (become_split e o (length s.tree))) ++ (record_of gt ∷ record_of le ∷ [])
    records-more = records-plain t flat ∙ ap (map record_of) tree_is ∙ map-extended record_of s.tree i (become_split e o (length s.tree)) gt le
        ∙ ap (λ (l : List (Record M)). set l i (record_of (become_split e o (length s.tree))) ++ (record_of gt ∷ record_of le ∷ [])) (sym (records-plain s flat))

    same_span : (become_split e o (length s.tree)).span ≡ e.span
    unfolding become_split
    same_span = refl

    spans-more : (plain t flat).spans ≡ (plain s flat).spans ++ (gt.span ∷ le.span ∷ [])
    spans-more = search (arith, spans-plain, tree_is, map-append, set_same, same_span)

    no_leaf : is_leaf (become_split e o (length s.tree)).node ≡ false
    unfolding become_split
    no_leaf = refl

    leaves-more : leaf_count (tree_nodes t.tree) ≡ leaf_count (tree_nodes s.tree) + 1
    unfolding leaf_count
    leaves-more =
        ap (λ (l : List (Entry M)). count_if is_leaf (tree_nodes l)) tree_is
        ∙ ap (count_if is_leaf) (map-extended (λ (x : Entry M). x.node) s.tree i (become_split e o (length s.tree)) gt le)
        ∙ count_append is_leaf (set (tree_nodes s.tree) i (become_split e o (length s.tree)).node) (gt.node ∷ le.node ∷ [])
        ∙ (let one = count_set_out is_leaf (tree_nodes s.tree) i (become_split e o (length s.tree)).node leaf (rw (length-map s.tree (λ (x : Entry M). x.node)) inside) (rw (node_at s.tree i) (T→true (is_leaf e.node) was)) no_leaf in
        rw (T→true (is_leaf gt.node) facts.leaves.0, T→true (is_leaf le.node) facts.leaves.1) (omega arith))

    bits-more : t.bits ≡ grown_bits M s.bits gt.info.cost le.info.cost e.info.cost
    unfolding split_at
    bits-more = refl

    split-more : ResultOneMore j.uses (plain s flat) (plain t flat)
    unfolding plain result_of become_split gt_leaf le_leaf leaf_over
    split-more = record {
      number = i;
      prop = o.prop;
      val = o.val;
      gt = gt.info;
      le = le.info;
      middle = le.span.first;
      was_leaf = (inside, rw record_is was);
      whole = (sym (ap length (records-plain s flat) ∙ length-map s.tree record_of), sym (ap length (spans-plain s flat) ∙ length-map s.tree (λ (x : Entry M). x.span)));
      records = rw record_is records-more;
      spans = rw leaf-span (spans-more ∙ ap (λ (l : List Span). (plain s flat).spans ++ l) new-spans);
      between = rw leaf-span (omega (arith, facts.gt_span_lem), omega (arith, facts.le_span_lem));
      count = ap length tree_is ∙ length-extended s.tree i (become_split e o (length s.tree)) gt le no_entry ∙ two-more;
      leaves = leaves-more;
      bits = rw record_is bits-more;
      flat = refl;
      same_rows = rw leaf-span facts.same_rows;
      elsewhere = rw leaf-span facts.elsewhere;
    }
      where
        new-spans : ◌≡◌ {A = List Span} (gt.span ∷ le.span ∷ []) (record { first = e.span.first; end = le.span.first } ∷ record { first = le.span.first; end = e.span.end } ∷ [])
        new-spans = λ i. span-is gt.span e.span.first le.span.first facts.gt_span_lem.0 facts.gt_span_lem.1 i ∷ span-is le.span le.span.first e.span.end refl facts.le_span_lem.0 i ∷ []

        two-more : suc (suc (length s.tree)) ≡ length s.tree + 2
        two-more = omega arith

    -- it is of that leaf, as it offers
    pub split-so : SplitSo j.uses i o (plain s flat) (plain t flat)
    unfolding split-more
    split-so = (split-more, refl, refl, refl)

  -- ---- any number of steps
  module _ (j : Job M) (unpruned : prunes j ≡ false) (seeds : ℕ → Bool) (given : List Row) (s : State M) (flat : M.Total) (inv : Invariant j.uses seeds given s) where
    abbrev after : ℕ → Result M
    after n = finished j (steps j n s) flat

    plain-after : (n : ℕ) → after n ≡ plain (steps j n s) flat
    plain-after n = finished-plain j unpruned seeds given (steps j n s) flat (steps-keep j seeds given n s inv)

    kept : (n : ℕ) → Invariant j.uses seeds given (steps j n s)
    kept n = steps-keep j seeds given n s inv

    step-more : (t : State M) → Invariant j.uses seeds given t → (plain (step j t) flat ≡ plain t flat) ⊎ ResultOneMore j.uses (plain t flat) (plain (step j t) flat)
    step-more t inv = elim (step_is j t) [
      | inl e ↦ inl (ap (λ (u : State M). plain u flat) e)
      | inr one ↦ inr (rw one.result (split-more j seeds given t flat inv one.number one.inside (inv.offers one.number one.inside one.offer one.waiting) one.offer))
    ]

    pub steps-more : (n : ℕ) → (after (suc n) ≡ after n) ⊎ ResultOneMore j.uses (after n) (after (suc n))
    unfolding steps
    steps-more n = rw (plain-after n, plain-after (suc n)) (step-more (steps j n s) (kept n))
