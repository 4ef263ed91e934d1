-- A step of growth keeps the invariant. Assumes nothing.
use mathlib.Core.Path.{◌≡◌, refl, sym, ap, ◌∙◌, subst}
use mathlib.Core.Logic.{◌≢◌, ◌⊎◌, inl, inr}
use Prim.Native.Nat.{ℕ, suc, ◌+◌, ◌-◌, ◌≤◌, ◌<◌}
use native.Mathlib.Omega.{arith}
use native.Mathlib.Decide.{ℕ_discrete, dec_lt}
use mathlib.Core.Bool.{Bool, true, false, cond, not, ◌&&◌, and_assoc}
use mathlib.Core.List.{List, map}
use mathlib.Core.Option.{none, some}
use lib.ListN.{length, get_or, length-map, get_or-map, get_or-eq_default}
use lib.Seq.{slice, length-slice}
use lib.Dec.{T, eqb}
use Rattle.model.specs.Lists.{count_if, keep}
use Rattle.model.specs.Rows.{Row, is_above, Span, within}
use Rattle.model.specs.Partition.{above_rows, other_rows}
use Rattle.model.specs.Mode.{fresh}
use Rattle.model.specs.Meter.{Meter}
use Rattle.model.specs.Job.{Offer, Job}
use Rattle.model.specs.Tree.{Node, split, leaf, is_leaf}
use Rattle.model.specs.Grow.{Entry, State, no_entry, tree_nodes, leaf_over, gt_rows, le_rows, gt_span, le_span, gt_leaf, le_leaf, split_rows, become_split, split_at}
use Rattle.model.specs.Promise.{Same, SameRows, key, no_row}
use Rattle.model.specs.Family.{Child, Family, Anc, parent, under, passes}
use Rattle.model.specs.Accepting.{Below, OfferFits}
use Rattle.model.specs.Kept.{HoldsPassing, Laid, entry_at, Invariant, IsOffered, Current}
use Rattle.model.proofs.Counting.{count_ext, count_map, count-keep, count-split}
use Rattle.model.proofs.Parts.{count-above, count-others, length-parts}
use Rattle.model.proofs.Extended.{extended, length-extended, extended-at, extended-old, extended-gt, extended-le, new-cases, map-extended}
use Rattle.model.proofs.Family.{anc_no_leaf, grown-family, child-from, child-forward, child-kept, anc_kept, child_gt_new, child_le_new}
use Rattle.model.proofs.Paths.{grown, passes-old, passes-new, eqb_same, eqb-other}
use Rattle.model.proofs.Slices.{length-replaced, replaced-before, replaced-after, slice-gt, slice-le, slice-before, slice-after, count-around}
use Rattle.model.proofs.Fresh.{fresh-key, fresh-twice, length-fresh}

laid-sym : (nodes : List Node) (i k : ℕ) (s t : Span) → Laid nodes i k s t → Laid nodes k i t s
laid-sym nodes i k s t (inl c) = inr (inl c)
laid-sym nodes i k s t (inr (inl c)) = inl c
laid-sym nodes i k s t (inr (inr (inl c))) = inr (inr (inr c))
laid-sym nodes i k s t (inr (inr (inr c))) = inr (inr (inl c))

pub T-not-both : (b : Bool) → T b → T (not b) → ⊥
T-not-both true t f = f
T-not-both false t f = t

pub none_is_no_some : {A : Type 0} (x : A) → none ≡ some x → ⊥
none_is_no_some {A} x p = grind arith

child-gt : (b : Bool) (m : ℕ) → eqb (cond b m (suc m)) m ≡ b
child-gt true m = eqb_same m
child-gt false m = eqb-other (suc m) m (omega arith)

child-le : (b : Bool) (m : ℕ) → eqb (cond b m (suc m)) (suc m) ≡ not b
child-le true m = eqb-other m (suc m) (omega arith)
child-le false m = eqb_same (suc m)

module _ {M : Meter} where
  pub node_at : (tree : List (Entry M)) (k : ℕ) → get_or (tree_nodes tree) k leaf ≡ (entry_at tree k).node
  node_at tree k = get_or-map (λ (e : Entry M). e.node) tree k no_entry

  -- a leaf's span lies before another node's, behind it, or inside it if that node is a split
  abbrev pub Clear : Span → Entry M → Type 0
  Clear s k = (s.end ≤ k.span.first) ⊎ ((k.span.end ≤ s.first) ⊎ (T (not (is_leaf k.node)) × (k.span.first ≤ s.first) × (s.end ≤ k.span.end)))

  -- of a leaf
  pub clear_of : {uses : Bool} {seeds : ℕ → Bool} {given : List Row} (s : State M) → Invariant uses seeds given s → (i k : ℕ) → i < length s.tree → k < length s.tree → i ≢ k → T (is_leaf (entry_at s.tree i).node) → Clear (entry_at s.tree i).span (entry_at s.tree k)
  clear_of s inv i k hi hk ne t = go (inv.laid i k hi hk ne)
    where
      split_if : (b : Bool) → (T b → ⊥) → T (not b)
      split_if true f = f tt
      split_if false f = tt

      leaf-ends : (x : ℕ) {y : ℕ} → T (is_leaf (entry_at s.tree x).node) → Anc (tree_nodes s.tree) x y → ⊥
      leaf-ends x u a = anc_no_leaf (rw (node_at s.tree x) u) a

      go : Laid (tree_nodes s.tree) i k (entry_at s.tree i).span (entry_at s.tree k).span → Clear (entry_at s.tree i).span (entry_at s.tree k)
      go (inl c) = inl c
      go (inr (inl c)) = inr (inl c)
      go (inr (inr (inl c))) = inr (inr (split_if (is_leaf (entry_at s.tree k).node) (λ u. leaf-ends k u c.0), c.1, c.2))
      go (inr (inr (inr c))) = absurd (leaf-ends i t c.0)

  -- t is s with leaf i split: the entries, the children and the spans of the longer tree
  pub record SplitOf (uses : Bool) (s t : State M) (i : ℕ) (o : Offer M) (gt le : Entry M) : Type 0 where
    pub longer : length t.tree ≡ suc (suc (length s.tree))
    pub old : (k : ℕ) → k < length s.tree → k ≢ i → entry_at t.tree k ≡ entry_at s.tree k
    pub at : entry_at t.tree i ≡ become_split (entry_at s.tree i) o (length s.tree)
    pub at_gt : entry_at t.tree (length s.tree) ≡ gt
    pub at_le : entry_at t.tree (suc (length s.tree)) ≡ le
    pub leaves : T (is_leaf gt.node) × T (is_leaf le.node)
    pub same_spans : (k : ℕ) → k < length s.tree → (entry_at t.tree k).span ≡ (entry_at s.tree k).span
    pub gt_span_lem : (gt.span.first ≡ (entry_at s.tree i).span.first) × (gt.span.end ≡ le.span.first) × (gt.span.first ≤ gt.span.end)
    pub le_span_lem : (le.span.end ≡ (entry_at s.tree i).span.end) × (le.span.first ≤ le.span.end)
    pub same_count : length t.rows ≡ length s.rows
    pub same_rows : SameRows uses (within (entry_at s.tree i).span t.rows) (within (entry_at s.tree i).span s.rows)
    pub elsewhere : (p : ℕ) → (p < (entry_at s.tree i).span.first) ⊎ ((entry_at s.tree i).span.end ≤ p) → get_or t.rows p no_row ≡ get_or s.rows p no_row
    pub children : (a c : ℕ) → Child (tree_nodes t.tree) a c → ((a ≡ i) × ((c ≡ length s.tree) ⊎ (c ≡ suc (length s.tree)))) ⊎ Child (tree_nodes s.tree) a c
    pub kept : (a c : ℕ) → Child (tree_nodes s.tree) a c → Child (tree_nodes t.tree) a c
    pub new : Child (tree_nodes t.tree) i (length s.tree) × Child (tree_nodes t.tree) i (suc (length s.tree))

  -- ---- one split
  module _ (j : Job M) (seeds : ℕ → Bool) (given : List Row) (s : State M) (inv : Invariant j.uses seeds given s)
      (i : ℕ) (inside : i < length s.tree) (was : T (is_leaf (entry_at s.tree i).node)) (o : Offer M) where
    abbrev pub e : Entry M
    e = entry_at s.tree i

    abbrev a : ℕ
    a = e.span.first

    abbrev b : ℕ
    b = e.span.end

    abbrev gt : List Row
    gt = gt_rows j s.rows e o

    abbrev le : List Row
    le = le_rows j s.rows e o

    abbrev pub n : ℕ
    n = length s.tree

    abbrev above : Row → Bool
    above = is_above o.prop o.val

    -- the part of the rows that is parted
    abbrev mine : List Row
    mine = within e.span s.rows

    length_gt : length gt ≡ length (above_rows above mine)
    unfolding gt_rows
    length_gt = length-fresh j.uses (above_rows above mine)

    length_le : length le ≡ length (other_rows above mine)
    unfolding le_rows
    length_le = length-fresh j.uses (other_rows above mine)

    fits : length gt + length le ≡ b - a
    fits = omega (arith, length_gt, length_le, length-parts above mine, length-slice a b s.rows (inv.bounds i inside).1)

    -- a test of what rows are matched by
    gt_count : (p : Row → Bool) → count_if (λ (r : Row). p (key j.uses r)) gt ≡ count_if (λ (r : Row). above r && p (key j.uses r)) mine
    unfolding gt_rows
    gt_count p = sym (count_map p (key j.uses) gt) ∙ ap (count_if p) (fresh-key j.uses (above_rows above mine))
        ∙ count_map p (key j.uses) (above_rows above mine) ∙ count-above above (λ (r : Row). p (key j.uses r)) mine

    le_count : (p : Row → Bool) → count_if (λ (r : Row). p (key j.uses r)) le ≡ count_if (λ (r : Row). not (above r) && p (key j.uses r)) mine
    unfolding le_rows
    le_count p = sym (count_map p (key j.uses) le) ∙ ap (count_if p) (fresh-key j.uses (other_rows above mine))
        ∙ count_map p (key j.uses) (other_rows above mine) ∙ count-others above (λ (r : Row). p (key j.uses r)) mine

    abbrev rows' : List Row
    rows' = split_rows j s.rows e o

    abbrev pub tree' : List (Entry M)
    tree' = extended s.tree i (become_split e o n) (gt_leaf j s.rows e o) (le_leaf j s.rows e o)

    abbrev pub gt_e : Entry M
    gt_e = gt_leaf j s.rows e o

    abbrev pub le_e : Entry M
    le_e = le_leaf j s.rows e o

    pub tree_old : (k : ℕ) → k < n → k ≢ i → entry_at tree' k ≡ entry_at s.tree k
    tree_old k h ne = extended-old s.tree i (become_split e o n) gt_e le_e no_entry k h ne

    pub tree_at : entry_at tree' i ≡ become_split e o n
    tree_at = extended-at s.tree i (become_split e o n) gt_e le_e no_entry inside

    pub tree_gt : entry_at tree' n ≡ gt_e
    tree_gt = extended-gt s.tree i (become_split e o n) gt_e le_e no_entry

    pub tree_le : entry_at tree' (suc n) ≡ le_e
    tree_le = extended-le s.tree i (become_split e o n) gt_e le_e no_entry

    pub length_tree' : length tree' ≡ suc (suc n)
    length_tree' = length-extended s.tree i (become_split e o n) gt_e le_e no_entry

    -- ---- the tree
    abbrev pub old : List Node
    old = tree_nodes s.tree

    length_old : length old ≡ n
    length_old = length-map s.tree (λ (x : Entry M). x.node)

    inside_old : i < length old
    inside_old = rw length_old inside

    was_old : T (is_leaf (get_or old i leaf))
    was_old = rw (node_at s.tree i) was

    abbrev new : List Node
    new = grown old i o.prop o.val leaf leaf

    new_is : tree_nodes tree' ≡ new
    unfolding become_split gt_leaf le_leaf leaf_over
    new_is = map-extended (λ (x : Entry M). x.node) s.tree i (become_split e o n) gt_e le_e
        ∙ ap (λ (m : ℕ). extended old i (split o.prop o.val m (suc m)) gt_e.node le_e.node) (sym length_old)

    passes_kept : (k : ℕ) → k < n → (r : Row) → passes (tree_nodes tree') k r ≡ passes old k r
    passes_kept k h r = rw new_is (passes-old old inv.family.forward i inside_old was_old o.prop o.val r.props k (rw length_old h))

    passes_child : (k : ℕ) → n ≤ k → (r : Row) → passes (tree_nodes tree') k r ≡ (passes old i r && eqb (cond (above r) n (suc n)) k)
    passes_child k h r = rw new_is (passes-new old inv.family.forward i inside_old was_old o.prop o.val r.props k (rw length_old h))
        ∙ ap (λ (m : ℕ). passes old i r && eqb (cond (above r) m (suc m)) k) length_old

    -- ---- the rows
    ab : a ≤ b
    ab = (inv.bounds i inside).0

    bn : b ≤ length s.rows
    bn = (inv.bounds i inside).1

    length_rows' : length rows' ≡ length s.rows
    unfolding split_rows
    length_rows' = length-replaced s.rows a b ab bn gt le fits

    abbrev keyed : (Row → Bool) → Row → Bool
    keyed p r = p (key j.uses r)

    -- a span that is clear, or around, holds what it held
    around : (c d : ℕ) → c ≤ a → b ≤ d → d ≤ length s.rows → Same (map (key j.uses) (slice c d rows')) (map (key j.uses) (slice c d s.rows))
    unfolding split_rows
    around c d ca bd dn p =
        count_map p (key j.uses) (slice c d rows')
        ∙ count-around s.rows a b ab bn gt le fits no_row (keyed p) (ap (λ (m : ℕ). m + count_if (keyed p) le) (gt_count p) ∙ ap (λ (m : ℕ). count_if (λ (r : Row). above r && keyed p r) mine + m) (le_count p) ∙ count-split above (keyed p) mine) c d ca bd dn
        ∙ sym (count_map p (key j.uses) (slice c d s.rows))

    untouched : (t : Entry M) → T (is_leaf t.node) → t.span.end ≤ length s.rows → Clear e.span t → within t.span rows' ≡ within t.span s.rows
    unfolding split_rows
    untouched t lf tn (inl c) = slice-after s.rows a b ab bn gt le fits no_row t.span.first t.span.end c tn
    untouched t lf tn (inr (inl c)) = slice-before s.rows a b ab bn gt le fits no_row t.span.first t.span.end c
    untouched t lf tn (inr (inr c)) = absurd (T-not-both (is_leaf t.node) lf c.0)

    pub span_kept : (t : Entry M) → t.span.end ≤ length s.rows → Clear e.span t → Same (map (key j.uses) (within t.span rows')) (map (key j.uses) (within t.span s.rows))
    unfolding split_rows
    span_kept t tn (inl c) p = ap (λ (l : List Row). count_if p (map (key j.uses) l)) (slice-after s.rows a b ab bn gt le fits no_row t.span.first t.span.end c tn)
    span_kept t tn (inr (inl c)) p = ap (λ (l : List Row). count_if p (map (key j.uses) l)) (slice-before s.rows a b ab bn gt le fits no_row t.span.first t.span.end c)
    span_kept t tn (inr (inr c)) p = around t.span.first t.span.end c.1 c.2 tn p

    gt_within : within (gt_span j s.rows e o) rows' ≡ gt
    unfolding split_rows gt_span
    gt_within = slice-gt s.rows a b ab bn gt le fits

    le_within : within (le_span j s.rows e o) rows' ≡ le
    unfolding split_rows le_span
    le_within = slice-le s.rows a b ab bn gt le fits

    -- rows handed in that pass a node, and a test
    given_count : (nodes : List Node) (k : ℕ) (p : Row → Bool) → count_if p (map (key j.uses) (keep (passes nodes k) given)) ≡ count_if (λ (r : Row). passes nodes k r && keyed p r) given
    given_count nodes k p = count_map p (key j.uses) (keep (passes nodes k) given) ∙ count-keep (keyed p) (passes nodes k) given

    mine_count : (q : Row → Bool) → count_if (keyed q) mine ≡ count_if (λ (r : Row). passes old i r && keyed q r) given
    mine_count q = sym (count_map q (key j.uses) mine) ∙ inv.holds i inside (inv.own i was) q ∙ given_count old i q

    -- an old node's span
    holds_kept : (k : ℕ) → k < n → seeds k ≡ false → Same (map (key j.uses) (within (entry_at s.tree k).span rows')) (map (key j.uses) (within (entry_at s.tree k).span s.rows))
        → HoldsPassing j.uses (tree_nodes tree') given rows' (entry_at s.tree k).span k
    holds_kept k h own same p = same p ∙ inv.holds k h own p ∙ given_count old k p
        ∙ count_ext given (λ r. ap (λ (x : Bool). x && keyed p r) (sym (passes_kept k h r))) ∙ sym (given_count (tree_nodes tree') k p)

    holds_gt : HoldsPassing j.uses (tree_nodes tree') given rows' (gt_span j s.rows e o) n
    holds_gt p = ap (λ (l : List Row). count_if p (map (key j.uses) l)) gt_within ∙ count_map p (key j.uses) gt ∙ gt_count p ∙ mine_count (λ (r : Row). above r && p r)
        ∙ count_ext given (λ r. sym (and_assoc (passes old i r) (above r) (keyed p r)) ∙ ap (λ (x : Bool). x && keyed p r) (sym (passes_child n (omega arith) r ∙ ap (λ (y : Bool). passes old i r && y) (child-gt (above r) n))))
        ∙ sym (given_count (tree_nodes tree') n p)

    holds_le : HoldsPassing j.uses (tree_nodes tree') given rows' (le_span j s.rows e o) (suc n)
    holds_le p = ap (λ (l : List Row). count_if p (map (key j.uses) l)) le_within ∙ count_map p (key j.uses) le ∙ le_count p ∙ mine_count (λ (r : Row). not (above r) && p r)
        ∙ count_ext given (λ r. sym (and_assoc (passes old i r) (not (above r)) (keyed p r)) ∙ ap (λ (x : Bool). x && keyed p r) (sym (passes_child (suc n) (omega arith) r ∙ ap (λ (y : Bool). passes old i r && y) (child-le (above r) n))))
        ∙ sym (given_count (tree_nodes tree') (suc n) p)

    -- ---- the new leaves
    gt_e_span : gt_e.span ≡ gt_span j s.rows e o
    unfolding gt_leaf leaf_over
    gt_e_span = refl

    le_e_span : le_e.span ≡ le_span j s.rows e o
    unfolding le_leaf leaf_over
    le_e_span = refl

    gt_e_leaf : T (is_leaf gt_e.node)
    unfolding gt_leaf leaf_over
    gt_e_leaf = tt

    le_e_leaf : T (is_leaf le_e.node)
    unfolding le_leaf leaf_over
    le_e_leaf = tt

    gt_e_first : gt_e.span.first ≡ a
    unfolding gt_span
    gt_e_first = ap (λ (t : Span). t.first) gt_e_span

    gt_e_end : gt_e.span.end ≡ a + length gt
    unfolding gt_span
    gt_e_end = ap (λ (t : Span). t.end) gt_e_span

    le_e_first : le_e.span.first ≡ a + length gt
    unfolding le_span
    le_e_first = ap (λ (t : Span). t.first) le_e_span

    le_e_end : le_e.span.end ≡ b
    unfolding le_span
    le_e_end = ap (λ (t : Span). t.end) le_e_span

    not_leaf : T (is_leaf (become_split e o n).node) → ⊥
    unfolding become_split
    not_leaf t = t

    same_span : (become_split e o n).span ≡ e.span
    unfolding become_split
    same_span = refl

    no_offer : (p : Offer M) → (become_split e o n).offer ≡ some p → ⊥
    unfolding become_split
    no_offer p q = none_is_no_some p q

    -- ---- what the invariant says, at each node
    split_bounds : (k : ℕ) → k < suc (suc n) → ((entry_at tree' k).span.first ≤ (entry_at tree' k).span.end) × ((entry_at tree' k).span.end ≤ length rows')
    split_bounds = rw length_rows' (new-cases {P = λ (k : ℕ). ((entry_at tree' k).span.first ≤ (entry_at tree' k).span.end) × ((entry_at tree' k).span.end ≤ length s.rows)} n i
        (λ k h ne. rw (tree_old k h ne) (inv.bounds k h))
        (rw (tree_at, same_span) (ab, bn))
        (rw tree_gt (omega (arith, gt_e_first, gt_e_end, fits, ab, bn)))
        (rw tree_le (omega (arith, le_e_first, le_e_end, fits, ab, bn))))

    split_holds : (k : ℕ) → k < suc (suc n) → seeds k ≡ false → HoldsPassing j.uses (tree_nodes tree') given rows' (entry_at tree' k).span k
    split_holds = new-cases {P = λ (k : ℕ). seeds k ≡ false → HoldsPassing j.uses (tree_nodes tree') given rows' (entry_at tree' k).span k} n i
        (λ k h ne own. subst (λ (x : Entry M). HoldsPassing j.uses (tree_nodes tree') given rows' x.span k) (sym (tree_old k h ne))
        (holds_kept k h own (span_kept (entry_at s.tree k) (inv.bounds k h).1 (clear_of s inv i k inside h (λ (q : i ≡ k). ne (sym q)) was))))
        (λ own. subst (λ (t : Span). HoldsPassing j.uses (tree_nodes tree') given rows' t i) (sym (ap (λ (x : Entry M). x.span) tree_at ∙ same_span))
        (holds_kept i inside own (around a b (omega arith) (omega arith) bn)))
        (λ own. subst (λ (t : Span). HoldsPassing j.uses (tree_nodes tree') given rows' t n) (sym (ap (λ (x : Entry M). x.span) tree_gt ∙ gt_e_span)) holds_gt)
        (λ own. subst (λ (t : Span). HoldsPassing j.uses (tree_nodes tree') given rows' t (suc n)) (sym (ap (λ (x : Entry M). x.span) tree_le ∙ le_e_span)) holds_le)

    -- whatever holds of each leaf and the rows of its span, and of the new leaves with theirs
    split_leaves : (P : Entry M → List Row → Type 0) → P gt_e gt → P le_e le
        → ((k : ℕ) → k < n → T (is_leaf (entry_at s.tree k).node) → P (entry_at s.tree k) (within (entry_at s.tree k).span s.rows))
        → (k : ℕ) → k < suc (suc n) → T (is_leaf (entry_at tree' k).node) → P (entry_at tree' k) (within (entry_at tree' k).span rows')
    split_leaves P g l old = new-cases {P = λ (k : ℕ). T (is_leaf (entry_at tree' k).node) → P (entry_at tree' k) (within (entry_at tree' k).span rows')} n i
        (λ k h ne. rw (tree_old k h ne) (λ lf. rw (untouched (entry_at s.tree k) lf (inv.bounds k h).1 (clear_of s inv i k inside h (λ (q : i ≡ k). ne (sym q)) was)) (old k h lf)))
        (rw tree_at (λ lf. absurd (not_leaf lf)))
        (rw tree_gt (λ lf. rw (ap (λ (t : Span). within t rows') gt_e_span ∙ gt_within) g))
        (rw tree_le (λ lf. rw (ap (λ (t : Span). within t rows') le_e_span ∙ le_within) l))

    gt_again : fresh j.uses gt ≡ gt
    unfolding gt_rows
    gt_again = fresh-twice j.uses (above_rows above mine)

    le_again : fresh j.uses le ≡ le
    unfolding le_rows
    le_again = fresh-twice j.uses (other_rows above mine)

    split_fresh : (k : ℕ) → k < suc (suc n) → T (is_leaf (entry_at tree' k).node) → fresh j.uses (within (entry_at tree' k).span rows') ≡ within (entry_at tree' k).span rows'
    split_fresh = split_leaves (λ x mine. fresh j.uses mine ≡ mine) gt_again le_again inv.fresh_tokens

    split_offers : (k : ℕ) → k < suc (suc n) → (p : Offer M) → (entry_at tree' k).offer ≡ some p → T (is_leaf (entry_at tree' k).node)
    split_offers = search (arith, tree_old, tree_at, no_offer, tree_gt, gt_e_leaf, tree_le, le_e_leaf)

    -- what an old leaf offers is still said of its rows, and what a new one offers is said of its own
    gt_e_offer : IsOffered j gt_e gt
    unfolding gt_leaf leaf_over
    gt_e_offer = refl

    le_e_offer : IsOffered j le_e le
    unfolding le_leaf leaf_over
    le_e_offer = refl

    pub split_current : Current j s → Current j (split_at j s i o)
    unfolding split_at
    split_current c = record { offers = rw length_tree' (split_leaves (IsOffered j) gt_e_offer le_e_offer c.offers) }

    abbrev Weighs : Entry M → List Row → Type 0
    Weighs x mine = (p : Offer M) → x.offer ≡ some p → Below p mine

    new_weighs : (x : Entry M) (mine : List Row) → OfferFits mine x.offer → Weighs x mine
    new_weighs x mine f p q = (subst (OfferFits mine) q f).1

    pub split_weighs : ((depth : ℕ) (cost : M.Cost) (rows : List Row) → OfferFits rows (j.offered depth cost rows))
        → ((k : ℕ) → k < n → Weighs (entry_at s.tree k) (within (entry_at s.tree k).span s.rows))
        → (k : ℕ) → k < suc (suc n) → Weighs (entry_at tree' k) (within (entry_at tree' k).span rows')
    split_weighs fit w k h p q =
        split_leaves Weighs (new_weighs gt_e gt (rw gt_e_offer (fit gt_e.depth gt_e.info.cost gt))) (new_weighs le_e le (rw le_e_offer (fit le_e.depth le_e.info.cost le)))
        (λ k h lf. w k h) k h (split_offers k h p q) p q

    split_own : (k : ℕ) → T (is_leaf (entry_at tree' k).node) → seeds k ≡ false
    split_own k = search (arith, tree_old, get_or-eq_default)

    split_endless : (k : ℕ) → seeds k ≡ true → (entry_at tree' k).info.cost ≡ M.endless
    split_endless k q = search (arith, tree_old, get_or-eq_default)

    -- ---- how the spans lie
    split_family : Family (tree_nodes tree')
    split_family = rw new_is (grown-family old inv.family i inside_old was_old o.prop o.val)

    anc_new : {x y : ℕ} → Anc old x y → Anc (tree_nodes tree') x y
    anc_new a = rw new_is (anc_kept old inv.family i inside_old was_old o.prop o.val a)

    child_new : (x c : ℕ) → Child old x c → Child (tree_nodes tree') x c
    child_new x c h = rw new_is (child-kept old inv.family i inside_old was_old o.prop o.val x c h)

    child_gt' : Child (tree_nodes tree') i n
    child_gt' = rw (new_is, ← length_old) (child_gt_new old inv.family i inside_old was_old o.prop o.val)

    child_le' : Child (tree_nodes tree') i (suc n)
    child_le' = rw (new_is, ← length_old) (child_le_new old inv.family i inside_old was_old o.prop o.val)

    laid_old : (x k : ℕ) (s t : Span) → Laid old x k s t → Laid (tree_nodes tree') x k s t
    laid_old x k s t (inl c) = inl c
    laid_old x k s t (inr (inl c)) = inr (inl c)
    laid_old x k s t (inr (inr (inl c))) = inr (inr (inl (anc_new c.0, c.1, c.2)))
    laid_old x k s t (inr (inr (inr c))) = inr (inr (inr (anc_new c.0, c.1, c.2)))

    -- an old node and a new leaf of i, whose span is a part of i's
    laid_part : (x k : ℕ) (t : Span) → x < n → Child (tree_nodes tree') i k → a ≤ t.first → t.end ≤ b → Laid (tree_nodes tree') x k (entry_at s.tree x).span t
    laid_part x k t h c f l = elim (ℕ_discrete x i) [ yes e ↦ here e | no ne ↦ go (inv.laid x i h inside ne) ]
      where
        here : x ≡ i → Laid (tree_nodes tree') x k (entry_at s.tree x).span t
        here e = rw e (inr (inr (inr (parent c, f, l))))

        go : Laid old x i (entry_at s.tree x).span e.span → Laid (tree_nodes tree') x k (entry_at s.tree x).span t
        go (inl q) = inl (omega arith)
        go (inr (inl q)) = inr (inl (omega arith))
        go (inr (inr (inl q))) = absurd (anc_no_leaf was_old q.0)
        go (inr (inr (inr q))) = inr (inr (inr (under (anc_new q.0) c, omega (arith, q.1), omega (arith, q.2))))

    abbrev span_of' : ℕ → Span
    span_of' k = (entry_at tree' k).span

    span_old : (k : ℕ) → k < n → span_of' k ≡ (entry_at s.tree k).span
    span_old k h = search (arith, tree_at, same_span, tree_old)

    span_gt : span_of' n ≡ gt_e.span
    span_gt = ap (λ (x : Entry M). x.span) tree_gt

    span_le : span_of' (suc n) ≡ le_e.span
    span_le = ap (λ (x : Entry M). x.span) tree_le

    gt_laid : (x : ℕ) → x < n → Laid (tree_nodes tree') x n (span_of' x) (span_of' n)
    gt_laid x h = rw (span_old x h, span_gt) (laid_part x n gt_e.span h child_gt' (omega (arith, gt_e_first)) (omega (arith, gt_e_end, fits, ab)))

    le_laid : (x : ℕ) → x < n → Laid (tree_nodes tree') x (suc n) (span_of' x) (span_of' (suc n))
    le_laid x h = rw (span_old x h, span_le) (laid_part x (suc n) le_e.span h child_le' (omega (arith, le_e_first)) (omega (arith, le_e_end)))

    two_laid : Laid (tree_nodes tree') n (suc n) (span_of' n) (span_of' (suc n))
    two_laid = rw (span_gt, span_le) (inl (omega (arith, gt_e_end, le_e_first)))

    -- a number of the longer list is old, n or n + 1
    which : (x : ℕ) → x < suc (suc n) → (x < n) ⊎ ((x ≡ n) ⊎ (x ≡ suc n))
    which x h = elim (dec_lt x n) [ yes q ↦ inl q | no q ↦ inr (elim (ℕ_discrete x n) [ yes e ↦ inl e | no ne ↦ inr (omega arith) ]) ]

    split_laid : (x k : ℕ) → x < suc (suc n) → k < suc (suc n) → x ≢ k → Laid (tree_nodes tree') x k (span_of' x) (span_of' k)
    split_laid x k hx hk ne = go (which x hx) (which k hk)
      where
        go : (x < n) ⊎ ((x ≡ n) ⊎ (x ≡ suc n)) → (k < n) ⊎ ((k ≡ n) ⊎ (k ≡ suc n)) → Laid (tree_nodes tree') x k (span_of' x) (span_of' k)
        go (inl p) (inl q) = rw (span_old x p, span_old k q) (laid_old x k (entry_at s.tree x).span (entry_at s.tree k).span (inv.laid x k p q ne))
        go (inl p) (inr (inl q)) = rw q (gt_laid x p)
        go (inl p) (inr (inr q)) = rw q (le_laid x p)
        go (inr (inl p)) (inl q) = rw p (laid-sym (tree_nodes tree') k n (span_of' k) (span_of' n) (gt_laid k q))
        go (inr (inl p)) (inr (inl q)) = absurd (ne (p ∙ sym q))
        go (inr (inl p)) (inr (inr q)) = rw (p, q) two_laid
        go (inr (inr p)) (inl q) = rw p (laid-sym (tree_nodes tree') k (suc n) (span_of' k) (span_of' (suc n)) (le_laid k q))
        go (inr (inr p)) (inr (inl q)) = rw (p, q) (laid-sym (tree_nodes tree') n (suc n) (span_of' n) (span_of' (suc n)) two_laid)
        go (inr (inr p)) (inr (inr q)) = absurd (ne (p ∙ sym q))

    pub split_keeps : Invariant j.uses seeds given (split_at j s i o)
    unfolding split_at
    split_keeps = search (arith, split_family, length_tree', split_bounds, split_own, split_endless, split_laid, split_holds, split_fresh, split_offers)

    children_of_lem : (x c : ℕ) → Child (tree_nodes tree') x c → ((x ≡ i) × ((c ≡ n) ⊎ (c ≡ suc n))) ⊎ Child old x c
    children_of_lem x c h = go (child-from old inv.family i inside_old was_old o.prop o.val x c (rw new_is at h))
      where
        low : c < suc (suc n)
        low = omega (arith, child-forward (tree_nodes tree') split_family.forward x c h, length-map tree' (λ (x : Entry M). x.node), length_tree')

        go : ((x ≡ i) × (length old ≤ c)) ⊎ Child old x c → ((x ≡ i) × ((c ≡ n) ⊎ (c ≡ suc n))) ⊎ Child old x c
        go (inr q) = inr q
        go (inl q) = inl (q.0, elim (ℕ_discrete c n) [ yes e ↦ inl e | no ne ↦ inr (omega (arith, q.1, length_old, low)) ])

    outside : (p : ℕ) → (p < a) ⊎ (b ≤ p) → get_or rows' p no_row ≡ get_or s.rows p no_row
    unfolding split_rows
    outside p (inl h) = replaced-before s.rows a b ab bn gt le fits no_row p h
    outside p (inr h) = replaced-after s.rows a b ab bn gt le fits no_row p h

    -- the two parts have no more rows than there are
    pub few_parted : length s.rows ≡ length given → length gt + length le ≤ length given
    few_parted h = omega (arith, fits, ab, bn)

    pub split_of : SplitOf j.uses s (split_at j s i o) i o gt_e le_e
    unfolding split_at
    split_of = record {
      longer = length_tree';
      old = tree_old;
      at = tree_at;
      at_gt = tree_gt;
      at_le = tree_le;
      leaves = (gt_e_leaf, le_e_leaf);
      same_spans = span_old;
      gt_span_lem = (gt_e_first, gt_e_end ∙ sym le_e_first, omega (arith, gt_e_first, gt_e_end));
      le_span_lem = (le_e_end, omega (arith, le_e_first, le_e_end, fits, ab));
      same_count = length_rows';
      same_rows = around a b (omega arith) (omega arith) bn;
      elsewhere = outside;
      children = children_of_lem;
      kept = child_new;
      new = (child_gt', child_le');
    }
