-- Spans of a grown tree, of that tree pruned, and of either settled: leaves' spans lie apart, cover every place, and hold the rows whose lookup reaches
-- them. Assumes nothing.
use mathlib.Core.Path.{◌≡◌, refl, sym, ap, ◌∙◌, subst}
use mathlib.Core.Logic.{◌≢◌, ◌⊎◌, inl, inr}
use Prim.Native.Nat.{ℕ, zero, suc, ◌≤◌, ◌<◌}
use native.Mathlib.Omega.{arith}
use native.Mathlib.Decide.{ℕ_discrete}
use mathlib.Core.Bool.{Bool, false}
use mathlib.Core.List.Memᴰ
use mathlib.Core.List.{List, [], ◌∷◌, map, Memᴰ}
use lib.ListN.{length, get_or}
use lib.Dec.{T, eqb}
use Rattle.model.specs.Lists.{count_if, keep}
use Rattle.model.specs.Meter.{Meter}
use Rattle.model.specs.Settings.{max_nodes}
use Rattle.model.specs.Rows.{Row, Span, within}
use Rattle.model.specs.Tree.{Node, split, leaf, is_leaf, leaf_reached}
use Rattle.model.specs.Grow.{Entry, State, tree_nodes}
use Rattle.model.specs.Prune.{place_of, pruned_nodes, pruned_tree}
use Rattle.model.specs.Promise.{SameRows, key}
use Rattle.model.specs.Family.{ChildOf, Child, Anc, parent, under, passes}
use Rattle.model.specs.Kept.{entry_at, Invariant, Covered, Nested, Healthy}
use Rattle.model.proofs.Lawful.{Bounds}
use Rattle.model.proofs.Counting.{count_ext}
use Rattle.model.proofs.Paths.{meets-leaf}
use Rattle.model.proofs.Family.{child-forward}
use Rattle.model.proofs.Preorder.{place_at}
use Rattle.model.proofs.Invariant.{node_at, Clear, clear_of, T-not-both}
use Rattle.model.proofs.Folding.{Folded, folds, seeds-unfolded}
use Rattle.model.proofs.Pruned as P

-- whether a number stands in a list
dec_mem : (x : ℕ) (l : List ℕ) → Dec (Memᴰ x l)
dec_mem x [] = no (λ m. Memᴰ.not-nil m)
dec_mem x (y ∷ ys) = elim (ℕ_discrete x y) [
  | yes e ↦ yes (Memᴰ.head e)
  | no ne ↦ elim (dec_mem x ys) [ yes m ↦ yes (Memᴰ.tail m) | no o ↦ no (λ m. elim (Memᴰ.cases_cons m) [ inl e ↦ ne e | inr k ↦ o k ]) ]
]

module _ {M : Meter} where
  pub record Placed (uses : Bool) (given rows : List Row) (es : List (Entry M)) : Type 0 where
    pub bounds : (k : ℕ) → k < length es → ((entry_at es k).span.first ≤ (entry_at es k).span.end) × ((entry_at es k).span.end ≤ length rows)
    pub apart : (i k : ℕ) → i < length es → k < length es → i ≢ k → T (is_leaf (entry_at es i).node) → T (is_leaf (entry_at es k).node)
        → ((entry_at es i).span.end ≤ (entry_at es k).span.first) ⊎ ((entry_at es k).span.end ≤ (entry_at es i).span.first)
    pub holds : (k : ℕ) → k < length es → T (is_leaf (entry_at es k).node)
        → SameRows uses (within (entry_at es k).span rows) (keep (λ (r : Row). eqb (leaf_reached (tree_nodes es) r.props) k) given)
    pub covered : (p : ℕ) → p < length rows → Covered es p

  -- ---- a grown tree, and that tree pruned
  module _ (B : Bounds M) (uses : Bool) (seeds : ℕ → Bool) (given : List Row) (s : State M) (inv : Invariant uses seeds given s) (ok : Healthy B.Small seeds given s) where
    -- a node's span, by any test that says where its rows' ways lead
    holds_by : (k : ℕ) → k < length s.tree → seeds k ≡ false → (q : Row → Bool) → ((r : Row) → passes (tree_nodes s.tree) k r ≡ q r)
        → (p : Row → Bool) → count_if p (map (key uses) (within (entry_at s.tree k).span s.rows)) ≡ count_if p (map (key uses) (keep q given))
    holds_by k h own q same p = search (arith, count_ext)

    pub grown-placed : Placed uses given s.rows s.tree
    unfolding leaf_reached
    grown-placed = record {
      bounds = inv.bounds;
      apart = λ i k hi hk ne ti tk. go k tk (clear_of s inv i k hi hk ne ti);
      holds = λ k h t. holds_by k h (inv.own k t) (λ (r : Row). eqb (leaf_reached (tree_nodes s.tree) r.props) k)
          (λ r. meets-leaf (tree_nodes s.tree) r.props k (rw (node_at s.tree k) t) (length (tree_nodes s.tree)) 0);
      covered = ok.covered;
    }
      where
        go : {a : Span} (k : ℕ) → T (is_leaf (entry_at s.tree k).node) → Clear a (entry_at s.tree k) → (a.end ≤ (entry_at s.tree k).span.first) ⊎ ((entry_at s.tree k).span.end ≤ a.first)
        go k t (inl c) = inl c
        go k t (inr (inl c)) = inr c
        go k t (inr (inr c)) = absurd (T-not-both (is_leaf (entry_at s.tree k).node) t c.0)

    module _ (price : M.Cost) (fair : B.Small 1 (M.total price)) (few : length s.tree ≤ max_nodes) where
      abbrev order : List ℕ
      order = P.order price s.tree inv.family inv.rooted

      abbrev kept : List (Entry M)
      kept = pruned_tree price s.tree

      count_is : length kept ≡ length order
      count_is = P.length-kept price s.tree inv.family inv.rooted

      -- ---- every place stays covered
      abbrev old : List Node
      old = tree_nodes s.tree

      abbrev pn : List Node
      pn = pruned_nodes price s.tree

      -- a node that is gone lies below one that was turned into a leaf
      turned-above : (fuel x : ℕ) → x ≤ fuel → x < length s.tree → (Memᴰ x order → ⊥) → (a : ℕ) × Memᴰ a order × T (is_leaf (get_or pn a leaf)) × Anc old a x
      turned-above zero x f h out = let z : x ≡ 0 = omega arith in absurd (out (rw z (P.root-there price s.tree inv.family inv.rooted)))
      turned-above (suc fuel) x f h out = elim (ℕ_discrete x 0) [
        | yes z ↦ absurd (out (rw z (P.root-there price s.tree inv.family inv.rooted)))
        | no nz ↦ go (ok.parents x (omega arith) h) (λ y. turned-above fuel y)
      ]
        where
          turned : (a : ℕ) → Child old a x → Memᴰ a order → (m : Node) → get_or pn a leaf ≡ m → Folded (get_or old a leaf) m → T (is_leaf m)
          turned a c i leaf z k = tt
          turned a c i (split p v g l) z (inr k) = absurd k
          turned a c i (split p v g l) z (inl k) = absurd (out (P.closed price s.tree inv.family inv.rooted a x i (subst (λ (m : Node). ChildOf m x) (sym k ∙ sym z) c)))

          go : (a : ℕ) × Child old a x → ((y : ℕ) → y ≤ fuel → y < length s.tree → (Memᴰ y order → ⊥) → (a : ℕ) × Memᴰ a order × T (is_leaf (get_or pn a leaf)) × Anc old a y)
              → (a : ℕ) × Memᴰ a order × T (is_leaf (get_or pn a leaf)) × Anc old a x
          go (a, c) ih = elim (dec_mem a order) [
            | yes i ↦ (a, i, turned a c i (get_or pn a leaf) refl (folds price s.tree a), parent c)
            | no o ↦ further (ih a (omega (arith, w.0)) (omega (arith, w.0)) o)
          ]
            where
              w : (a < x) × (x < length old)
              w = child-forward old inv.family.forward a x c

              further : (b : ℕ) × Memᴰ b order × T (is_leaf (get_or pn b leaf)) × Anc old b a → (b : ℕ) × Memᴰ b order × T (is_leaf (get_or pn b leaf)) × Anc old b x
              further r = (r.0, r.1, r.2, under r.3 c)

      -- below a node that is no seed's, spans lie within its span
      nested-below : {a x : ℕ} → Anc old a x → seeds a ≡ false → Nested s.tree a x × (seeds x ≡ false)
      nested-below {a} (parent {c} h) q = (ok.nested a c h q, ok.own_below a c h q)
      nested-below {a} (under {b} {c} up h) q =
          let r = nested-below up q in
          let n = ok.nested b c h r.1 in
          ((omega (arith, r.0.0, n.0), omega (arith, r.0.1, n.1)), ok.own_below b c h r.1)

      kept-covers : (a p : ℕ) → Memᴰ a order → T (is_leaf (get_or pn a leaf)) → (entry_at s.tree a).span.first ≤ p → p < (entry_at s.tree a).span.end → Covered kept p
      kept-covers a p i t f l =
          let at = place_at a order i in
          let sp : (entry_at kept (place_of a order)).span ≡ (entry_at s.tree a).span = P.span_kept price s.tree inv.family inv.rooted (place_of a order) at.0 ∙ ap (λ (k : ℕ). (entry_at s.tree k).span) at.1 in
          (place_of a order, rw count_is at.0, P.leaf-again price s.tree inv.family inv.rooted (place_of a order) at.0 (rw at.1 t), rw sp f, rw sp l)

      pruned-covered : (p : ℕ) → p < length s.rows → Covered kept p
      pruned-covered p h = go (ok.covered p h)
        where
          leaf-stays : (m n : Node) → Folded m n → T (is_leaf m) → T (is_leaf n)
          leaf-stays m n (inl e) t = rw e t
          leaf-stays m n (inr u) t = u

          go : Covered s.tree p → Covered kept p
          go (k, i, t, f, l) = elim (dec_mem k order) [
            | yes m ↦ kept-covers k p m (leaf-stays (get_or old k leaf) (get_or pn k leaf) (folds price s.tree k) (rw (node_at s.tree k) t)) f l
            | no o ↦ above (turned-above k k (omega arith) i o)
          ]
            where
              above : (a : ℕ) × Memᴰ a order × T (is_leaf (get_or pn a leaf)) × Anc old a k → Covered kept p
              above (a, m, u, up) =
                  let at = place_at a order m in
                  let low : a < length s.tree = rw at.1 at (P.old-number price s.tree inv.family inv.rooted (place_of a order) at.0) in
                  let n = nested-below up (seeds-unfolded B price fair uses seeds given s inv ok few a low u) in
                  kept-covers a p m u (omega (arith, n.0.0, f)) (omega (arith, n.0.1, l))

      pub pruned-placed : Placed uses given s.rows kept
      pruned-placed = record {
        bounds = λ q h. let h' : q < length order = rw count_is at h in
            rw (P.span_kept price s.tree inv.family inv.rooted q h') (inv.bounds (get_or order q 0) (P.old-number price s.tree inv.family inv.rooted q h'));
        apart = λ q r hq hr ne tq tr. apart q r (rw count_is at hq) (rw count_is at hr) ne tq tr;
        holds = λ q h t. held q (rw count_is at h) t;
        covered = pruned-covered;
      }
        where
          apart : (q r : ℕ) → q < length order → r < length order → q ≢ r → T (is_leaf (entry_at kept q).node) → T (is_leaf (entry_at kept r).node) → ((entry_at kept q).span.end ≤ (entry_at kept r).span.first) ⊎ ((entry_at kept r).span.end ≤ (entry_at kept q).span.first)
          apart q r hq hr ne tq tr =
              rw (P.span_kept price s.tree inv.family inv.rooted q hq, P.span_kept price s.tree inv.family inv.rooted r hr)
              (elim (inv.laid (get_or order q 0) (get_or order r 0) (P.old-number price s.tree inv.family inv.rooted q hq) (P.old-number price s.tree inv.family inv.rooted r hr)
              (P.other-number price s.tree inv.family inv.rooted q r hq hr ne)) [
                | inl c ↦ inl c
                | inr (inl c) ↦ inr c
                | inr (inr (inl c)) ↦ absurd (P.not-above price s.tree inv.family inv.rooted r q hr hq (P.leaf-kept price s.tree inv.family inv.rooted r hr tr) c.0)
                | inr (inr (inr c)) ↦ absurd (P.not-above price s.tree inv.family inv.rooted q r hq hr (P.leaf-kept price s.tree inv.family inv.rooted q hq tq) c.0)
              ])

          held : (q : ℕ) → q < length order → T (is_leaf (entry_at kept q).node) → SameRows uses (within (entry_at kept q).span s.rows) (keep (λ (r : Row). eqb (leaf_reached (tree_nodes kept) r.props) q) given)
          held q h t =
              let u = P.leaf-kept price s.tree inv.family inv.rooted q h t in
              rw (P.span_kept price s.tree inv.family inv.rooted q h)
              (holds_by (get_or order q 0) (P.old-number price s.tree inv.family inv.rooted q h) (seeds-unfolded B price fair uses seeds given s inv ok few (get_or order q 0) (P.old-number price s.tree inv.family inv.rooted q h) u)
              (λ (r : Row). eqb (leaf_reached (tree_nodes kept) r.props) q)
              (λ r. sym (P.reaching_new price s.tree inv.family inv.rooted r.props q h u)))
