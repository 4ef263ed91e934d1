-- The mode steps on the leaves' spans in the rows' lists are those on the rows. Assumes nothing.
use mathlib.Core.Path.{◌≡◌, refl, sym, ap, ◌∙◌, subst}
use Prim.Native.Nat.{ℕ, suc, ◌*◌, ◌≤◌, ◌<◌}
use native.Mathlib.Omega.{arith}
use mathlib.Core.Bool.{Bool, true, false, cond, true≢false}
use mathlib.Core.List.{List, [], ◌∷◌, ◌++◌}
use lib.ListN.{length, get_or, set, take, drop, take-append-drop, length-set}
use lib.Seq.{take-take}
use lib.IntN.{ℤ}
use lib.Dec.{T, eqb}
use Rattle.std.proofs.lemmas.List.{length-take-le, get_or-take}
use Rattle.model.specs.Settings.{toks_per_row, max_rows}
use Rattle.model.specs.Rows.{Row, within}
use Rattle.model.specs.Mode.{zero_token, fresh}
use Rattle.model.specs.Single.{singles}
use Rattle.model.specs.Tree.{Node, split, leaf, is_leaf}
use Rattle.model.specs.Grow.{Entry, no_entry}
use Rattle.model.specs.Settle.{settled}
use Rattle.layout.specs.Records.{no_record, no_span_record, kind_at}
use Rattle.layout.specs.Tree.{NodeLists, HasRoom, entry_record, entry_span}
use Rattle.layout.specs.declared.MaNode.{MaNode}
use Rattle.layout.specs.declared.Span.{Span}
use Rattle.layout.proofs.Held.{held_node, held_span}
use Rattle.mode.specs.Column.{rezeroed}
use Rattle.mode.specs.Lent.{Inside, Clear, Rebasable}
use Rattle.mode.proofs.Stepped.{rebase_rows}
use Rattle.rows.specs.Flat.{Flat, row_count, Shaped, SameSize, Changed, held_in}
use Rattle.rows.proofs.Shapes.{size_same, size-then, count_still, shaped_still}
use Rattle.settle.specs.Leaves.{stepped, leaf_settled, leaves_settled, Settleable, HoldsLeaves}

-- ---- a step keeps the lists' lengths
length-rezeroed : (m : ℤ) (i : ℕ) (vs : List ℤ) (tok : List ℕ) → length (rezeroed m i vs tok) ≡ length tok
unfolding rezeroed
length-rezeroed m i [] tok = refl
length-rezeroed m i (v ∷ vs) tok = length-rezeroed m (suc i) vs (set tok (i * toks_per_row) (zero_token m v)) ∙ length-set tok (i * toks_per_row) (zero_token m v)

pub stepped-size : (x : Flat) (s : Span) → SameSize x (stepped x s)
stepped-size x s = record { props = refl; toks = length-rezeroed _ _ _ x.toks; res = refl }

settled-size : (x : Flat) (m : MaNode) (s : Span) → SameSize x (leaf_settled x m s)
settled-size x m s = go (eqb m.kind 1)
  where
    go : (split : Bool) → SameSize x (cond split x (stepped x s))
    go true = size_same x
    go false = stepped-size x s

-- and the residuals as they are
settled-res : (x : Flat) (m : MaNode) (s : Span) → (leaf_settled x m s).res ≡ x.res
settled-res x m s = go (eqb m.kind 1)
  where
    go : (split : Bool) → (cond split x (stepped x s)).res ≡ x.res
    go true = refl
    go false = refl

-- ---- the loop's turns
-- the nodes ms with spans ss are left, and the lists, x₀ at first, are x
pub record Left (ms₀ : List MaNode) (ss₀ : List Span) (x₀ : Flat) (ms : List MaNode) (ss : List Span) (x : Flat) (counts : List ℕ) : Type 0 where
  pub even : length ms ≡ length ss
  pub rows : (i : ℕ) → i < length ms → eqb (get_or ms i no_record).kind 1 ≡ false
      → Rebasable x.toks x.res (get_or ss i no_span_record).first (get_or ss i no_span_record).end counts
  pub left : leaves_settled ms ss x ≡ leaves_settled ms₀ ss₀ x₀
  pub size : SameSize x₀ x

module _ {ms₀ : List MaNode} {ss₀ : List Span} {x₀ : Flat} {counts : List ℕ} where
  pub turn : {x : Flat} (m : MaNode) (s : Span) {all rest : List MaNode} {spans more : List Span} {counts' : List ℕ} {y : Flat}
      → all ≡ m ∷ rest → spans ≡ s ∷ more → Left ms₀ ss₀ x₀ all spans x counts → counts' ≡ counts → y ≡ leaf_settled x m s
      → Left ms₀ ss₀ x₀ rest more y counts'
  unfolding leaves_settled
  turn {x} m s {rest = rest} {more = more} e f l same made =
      let l' = rw (e, f) at l in
      let size = settled-size x m s in
      rw (same, made) (record {
        even = omega (arith, l'.even);
        rows = λ i h k. let r = l'.rows (suc i) (omega arith) k in record { span = subst (Inside _ _) (sym (settled-res x m s)) r.span; tokens = size.toks ∙ r.tokens ∙ ap (λ (l : List ℤ). length l * 14) (sym (settled-res x m s)); clear = r.clear };
        left = l'.left;
        size = size-then l'.size size;
      })

  pub done : {x : Flat} {ms : List MaNode} {ss : List Span} → Left ms₀ ss₀ x₀ ms ss x counts → length ms ≡ 0 → x ≡ leaves_settled ms₀ ss₀ x₀
  unfolding leaves_settled
  done {ms = []} l e = l.left
  done {ms = m ∷ ms} l e = absurd (omega arith)

-- ---- the steps on a tree's leaves
-- the leaves' spans lie in the rows
record Lies (x : Flat) (tree : List (Entry singles)) : Type 0 where
  pub shaped : Shaped x
  pub few : row_count x ≤ max_rows
  pub given : 0 < length x.res
  pub inside : (k : ℕ) → k < length tree → T (is_leaf (get_or tree k no_entry).node)
      → ((get_or tree k no_entry).span.first ≤ (get_or tree k no_entry).span.end) × ((get_or tree k no_entry).span.end ≤ row_count x)

-- the records and spans are of the entries' kinds and spans
record Shows (ms : List MaNode) (ss : List Span) (tree : List (Entry singles)) : Type 0 where
  pub nodes : length ms ≡ length tree
  pub spans : length ss ≡ length tree
  pub kind : (k : ℕ) → k < length tree → kind_at ms k ≡ (entry_record (get_or tree k no_entry)).kind
  pub span : (k : ℕ) → k < length tree → get_or ss k no_span_record ≡ entry_span (get_or tree k no_entry)

in_rows : {x : Flat} {first end : ℕ} → Shaped x → row_count x ≤ max_rows → 0 < length x.res → first ≤ end → end ≤ row_count x → Inside first end x.res
in_rows s few given le inside = let m = s.res given in record { ordered = le; inside = omega arith; few = omega arith }

wide : {x : Flat} → Shaped x → 0 < length x.res → length x.props ≡ length x.res * 24
wide s given = let m = s.res given in let n = s.props in omega arith

step : (e : Entry singles) (es : List (Entry singles)) (x : Flat) → Lies x (e ∷ es)
    → Changed (settled true (e ∷ [])) x (leaf_settled x (entry_record e) (entry_span e))
unfolding settled
step e es x l = record { rows = go e.node refl; size = settled-size x (entry_record e) (entry_span e) }
  where
    go : (n : Node) → e.node ≡ n → held_in (leaf_settled x (entry_record e) (entry_span e)) ≡ settled true (e ∷ []) (held_in x)
    go (split p v g l') z = rw z
    go leaf z =
        let p = l.inside 0 (omega arith) (rw z tt) in
        rw z (rebase_rows x.props x.toks x.res e.span.first e.span.end (in_rows l.shaped l.few l.given p.0 p.1) (wide l.shaped l.given))

walk : (tree : List (Entry singles)) (ms : List MaNode) (ss : List Span) (x : Flat) → Lies x tree → Shows ms ss tree
    → Changed (settled true tree) x (leaves_settled ms ss x)
unfolding settled leaves_settled
walk [] [] ss x l r = record { rows = refl; size = size_same x }
walk [] (m ∷ ms) ss x l r = absurd (omega (arith, r.nodes))
walk (e ∷ es) [] ss x l r = absurd (omega (arith, r.nodes))
walk (e ∷ es) (m ∷ ms) [] x l r = absurd (omega (arith, r.spans))
walk (e ∷ es) (m ∷ ms) (s ∷ ss) x l r =
    let y = leaf_settled x m s in
    let kind : m.kind ≡ (entry_record e).kind = r.kind 0 (omega arith) in
    let span : s ≡ entry_span e = r.span 0 (omega arith) in
    let one : Changed (settled true (e ∷ [])) x y = rw (kind, span) (step e es x l) in
    let more = walk es ms ss y (record {
      shaped = shaped_still one.size l.shaped;
      few = omega (arith, count_still one.size, l.few);
      given = omega (arith, l.given, one.size.res);
      inside = λ k h t. let p = l.inside (suc k) (omega arith) t in (p.0, omega (arith, count_still one.size));
    }) (record {
      nodes = omega (arith, r.nodes);
      spans = omega (arith, r.spans);
      kind = λ k h. r.kind (suc k) (omega arith);
      span = λ k h. r.span (suc k) (omega arith);
    }) in
    record { rows = more.rows ∙ ap (settled true es) one.rows; size = size-then one.size more.size }

-- where modes are not in use nothing changes
pub unsettled : (tree : List (Entry singles)) (rows : List Row)
    → ((k : ℕ) → k < length tree → T (is_leaf (get_or tree k no_entry).node) → (get_or tree k no_entry).span.first ≤ (get_or tree k no_entry).span.end)
    → settled false tree rows ≡ rows
unfolding settled fresh
unsettled [] rows ordered = refl
unsettled (e ∷ es) rows ordered = ap (settled false es) (go e.node refl) ∙ unsettled es rows (λ k h. ordered (suc k) (omega arith))
  where
    go : (n : Node) → e.node ≡ n → cond (is_leaf e.node) (take e.span.first rows ++ within e.span rows ++ drop e.span.end rows) rows ≡ rows
    go (split p v g l) z = rw z refl
    go leaf z =
        let le = ordered 0 (omega arith) (rw z tt) in
        rw z
        (ap (λ (l : List Row). l ++ within e.span rows ++ drop e.span.end rows) (sym (take-take e.span.first e.span.end rows le))
        ∙ ap (λ (l : List Row). l ++ drop e.span.end rows) (take-append-drop e.span.first (take e.span.end rows))
        ∙ take-append-drop e.span.end rows)

module _ {n : NodeLists} {count : ℕ} {x : Flat} {tree : List (Entry singles)} {lent : NodeLists} (h : HoldsLeaves n count x tree lent) where
  -- what the lists show of entry i
  kind-is : (i : ℕ) → i < length tree → kind_at n.nodes i ≡ (entry_record (get_or tree i no_entry)).kind
  kind-is i a = h.kinds i a ∙ ap (λ (m : MaNode). m.kind) (held_node tree lent i a)

  span-is : (i : ℕ) → i < length tree → get_or n.spans i no_span_record ≡ entry_span (get_or tree i no_entry)
  span-is i a = h.spans i a ∙ held_span tree lent i a

  pub settles : {y : Flat} → HasRoom count n → y ≡ leaves_settled (take count n.nodes) (take count n.spans) x → Changed (settled true tree) x y
  settles room e =
      let many = h.many in
      rw e (walk tree (take count n.nodes) (take count n.spans) x (record { shaped = h.shaped; few = h.few; given = h.given; inside = h.inside }) (record {
        nodes = length-take-le count n.nodes room.nodes ∙ many;
        spans = length-take-le count n.spans room.spans ∙ many;
        kind = λ k a. ap (λ (m : MaNode). m.kind) (get_or-take count n.nodes k no_record (omega arith)) ∙ kind-is k a;
        span = λ k a. get_or-take count n.spans k no_span_record (omega arith) ∙ span-is k a;
      }))

  -- what `settle_leaves` asks for
  pub settleable : (counts : List ℕ) → HasRoom count n → Clear counts → Settleable n count x counts
  settleable counts room clear = record {
    room = room;
    rows = λ i a k. go i (omega (arith, h.many)) k (get_or tree i no_entry).node refl;
  }
    where
      go : (i : ℕ) → i < length tree → eqb (get_or n.nodes i no_record).kind 1 ≡ false → (m : Node) → (get_or tree i no_entry).node ≡ m
          → Rebasable x.toks x.res (get_or n.spans i no_span_record).first (get_or n.spans i no_span_record).end counts
      go i a k leaf z =
          let p = h.inside i a (rw z tt) in
          let m = h.shaped.res h.given in
          rw (span-is i a)
          (record { span = in_rows h.shaped h.few h.given p.0 p.1; tokens = omega (arith, h.shaped.toks); clear = clear })
      go i a k (split p v g l) z = absurd (true≢false (rw (kind-is i a, z) at k))
