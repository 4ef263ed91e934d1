-- Which node lists are sound: families of nodes whose fields are in range, in which each node but the first has a parent and lies one deeper than it. Assumes nothing.
use mathlib.Core.Path.{◌≡◌, refl, sym, ap, subst}
use mathlib.Core.Logic.{inl, inr}
use Prim.Native.Nat.{ℕ, zero, suc, ◌+◌, ◌≤◌, ◌<◌}
use native.Mathlib.Nat.{zero-add, add-zero, lt_irrefl}
use native.Mathlib.Omega.{arith}
use native.Mathlib.Decide.{ℕ_discrete, dec_lt}
use mathlib.Core.Bool.{Bool, true, false, cond, not, ◌&&◌, ◌||◌, true≢false}
use mathlib.Core.List.{List, [], ◌∷◌}
use mathlib.Core.Option.{none, some}
use lib.ListN.{length, get_or, length-map, get_or-eq_default, get_or-map}
use lib.Dec.{T, T_not, not_T, eqb, ltb, lt→ltb, ltb→lt, eqb→eq}
use lib.Ieee.Fits.{and_i, and_l, and_r}
use Rattle.model.specs.Lists.{count_if, all}
use Rattle.model.specs.Meter.{Meter}
use Rattle.model.specs.Settings.{props_per_row, max_nodes}
use Rattle.model.specs.Tree.{Node, split, leaf, Record, blank_record, nodes_of, is_orderly, is_fine, has_child, has_two_children, has_one_parent, has_depth, fault_from, fault_of}
use Rattle.model.specs.Family.{Forward, ChildOf, Child, Twins, Family, Deep}
use Rattle.model.specs.Kept.{FieldsFit}
use Rattle.model.specs.Depths.{depth_in}
use Rattle.model.proofs.Paths.{T→true, eqb_same, eqb-other}
use Rattle.model.proofs.Family.{child-forward}
use Rattle.model.proofs.Keeping.{all-at, all-each}
use Rattle.model.proofs.Invariant.{none_is_no_some}

-- a family in which each node but the first has a parent
pub record Rooted (nodes : List Node) : Type 0 where
  pub family : Family nodes
  pub parents : (k : ℕ) → 0 < k → k < length nodes → (a : ℕ) × Child nodes a k

pub record Sound {M : Meter} (rs : List (Record M)) : Type 0 where
  pub rooted : Rooted (nodes_of rs)
  pub deep : Deep (nodes_of rs) (depth_in rs)
  pub fits : (k : ℕ) → k < length rs → FieldsFit (get_or rs k blank_record).node (get_or rs k blank_record).info.pred

-- ---- tests and counts
or_r : (a b : Bool) → T b → T (a || b)
or_r true b t = tt
or_r false b t = t

or_l : (a b : Bool) → T a → T (a || b)
or_l true b t = tt
or_l false b t = absurd t

or_other : (a b : Bool) → a ≡ false → T (a || b) → T b
or_other true b e t = absurd (true≢false e)
or_other false b e t = t

module _ {A : Type 0} (p : A → Bool) (d : A) where
  -- one place that passes a test, and two
  pub count-some : (l : List A) (a : ℕ) → a < length l → T (p (get_or l a d)) → 1 ≤ count_if p l
  count-some [] a h t = absurd (lt_irrefl a (omega arith))
  count-some (x ∷ xs) zero h t = rw (T→true (p x) t) (omega arith)
  count-some (x ∷ xs) (suc a) h t = let ih = count-some xs a (omega arith) t in omega arith

  count-two : (l : List A) (a b : ℕ) → a < b → b < length l → T (p (get_or l a d)) → T (p (get_or l b d)) → 2 ≤ count_if p l
  count-two [] a b h k t u = absurd (lt_irrefl b (omega arith))
  count-two (x ∷ xs) zero zero h k t u = absurd (lt_irrefl 0 h)
  count-two (x ∷ xs) zero (suc b) h k t u = rw (T→true (p x) t) (let s = count-some xs b (omega arith) u in omega arith)
  count-two (x ∷ xs) (suc a) zero h k t u = absurd (lt_irrefl 0 (omega arith))
  count-two (x ∷ xs) (suc a) (suc b) h k t u = let ih = count-two xs a b (omega arith) (omega arith) t u in omega arith

  -- a place that passes, where some do
  pub found : (l : List A) → 0 < count_if p l → (a : ℕ) × (a < length l) × T (p (get_or l a d))
  found [] h = absurd (lt_irrefl 0 h)
  found (y ∷ ys) h = at (p y) refl h (λ q. found ys q)
    where
      at : (b : Bool) → p y ≡ b → 0 < cond b 1 0 + count_if p ys → (0 < count_if p ys → (a : ℕ) × (a < length ys) × T (p (get_or ys a d))) → (a : ℕ) × (a < suc (length ys)) × T (p (get_or (y ∷ ys) a d))
      at true e h ih = (0, omega arith, rw e tt)
      at false e h ih = let f = ih (omega arith) in (suc f.0, omega (arith, f.1), f.2)

  pub one_at_most : (l : List A) → ((a b : ℕ) → a < length l → b < length l → T (p (get_or l a d)) → T (p (get_or l b d)) → a ≡ b) → count_if p l ≤ 1
  one_at_most [] u = omega arith
  one_at_most (x ∷ xs) u = go (p x) refl (one_at_most xs (λ a b ha hb ta tb. let e = u (suc a) (suc b) (omega arith) (omega arith) ta tb in omega arith))
    where
      none_more : T (p x) → (k : ℕ) → count_if p xs ≡ suc k → ⊥
      none_more t k e = let f = found xs (omega arith) in let z = u 0 (suc f.0) (omega arith) (omega (arith, f.1)) t f.2 in lt_irrefl 0 (omega arith)

      empty : T (p x) → (c : ℕ) → count_if p xs ≡ c → 1 + count_if p xs ≤ 1
      empty t zero q = omega arith
      empty t (suc c) q = absurd (none_more t c q)

      go : (b : Bool) → p x ≡ b → count_if p xs ≤ 1 → cond b 1 0 + count_if p xs ≤ 1
      go false e ih = omega arith
      go true e ih = empty (rw e tt) (count_if p xs) refl

-- ---- children by the test and by the relation
pub has_child_lem : (m : Node) (c : ℕ) → T (has_child c m) → ChildOf m c
has_child_lem leaf c t = t
has_child_lem (split p v g l) c t = search arith

pub child_has : (m : Node) (c : ℕ) → ChildOf m c → T (has_child c m)
child_has leaf c h = absurd h
child_has (split p v g l) c (inl e) = rw (e, eqb_same g) tt
child_has (split p v g l) c (inr e) = rw (e, eqb_same l) (or_r (eqb g l) true tt)

-- each node but the first is the child of one split
pub once : (nodes : List Node) → Rooted nodes → (k : ℕ) → 0 < k → k < length nodes → count_if (has_child k) nodes ≡ 1
once nodes t k pos h =
    let p = t.parents k pos h in
    let f = child-forward nodes t.family.forward p.0 k p.1 in
    let low = count-some (has_child k) leaf nodes p.0 (omega arith) (child_has (get_or nodes p.0 leaf) k p.1) in
    let high = one_at_most (has_child k) leaf nodes (λ a b ha hb ta tb. t.family.one_parent a b k (has_child_lem (get_or nodes a leaf) k ta) (has_child_lem (get_or nodes b leaf) k tb)) in
    omega arith

-- what holds of the root, and with a node of its children, holds of every node
pub from-root : (nodes : List Node) → Rooted nodes → (Q : ℕ → Type 0) → Q 0 → ((a c : ℕ) → Child nodes a c → Q a → Q c) → (k : ℕ) → k < length nodes → Q k
from-root nodes tree Q first next k h = go (suc k) k (omega arith) h
  where
    go : (bound k : ℕ) → k < bound → k < length nodes → Q k
    go zero k b h = absurd (omega arith)
    go (suc bound) zero b h = first
    go (suc bound) (suc k) b h =
        let (a, c) = tree.parents (suc k) (omega arith) h in
        let w = child-forward nodes tree.family.forward a (suc k) c in
        next a (suc k) c (go bound a (omega arith) (omega arith))

module _ {M : Meter} (rs : List (Record M)) where
  abbrev nodes : List Node
  nodes = nodes_of rs

  abbrev pred_at : ℕ → ℕ
  pred_at k = (get_or rs k blank_record).info.pred

  abbrev depth_at : ℕ → ℕ
  depth_at = depth_in rs

  pub same_length : length nodes ≡ length rs
  same_length = length-map rs (λ (r : Record M). r.node)

  pub node_at : (k : ℕ) → get_or nodes k leaf ≡ (get_or rs k blank_record).node
  node_at k = get_or-map (λ (r : Record M). r.node) rs k blank_record

  -- ---- no node is at fault
  fine-from : (i : ℕ) (ss : List (Record M)) → fault_from rs i ss ≡ none → (m : ℕ) → m < length ss → T (is_fine rs (i + m) (get_or ss m blank_record))
  unfolding fault_from
  fine-from i [] e m h = absurd (lt_irrefl m (omega arith))
  fine-from i (r ∷ ss) e m h = go (is_fine rs i r) refl e (λ z. fine-from (suc i) ss z) m h
    where
      go : (b : Bool) → is_fine rs i r ≡ b → cond b (fault_from rs (suc i) ss) (some i) ≡ none
          → (fault_from rs (suc i) ss ≡ none → (m : ℕ) → m < length ss → T (is_fine rs (suc i + m) (get_or ss m blank_record)))
          → (m : ℕ) → m < suc (length ss) → T (is_fine rs (i + m) (get_or (r ∷ ss) m blank_record))
      go false q z ih m h = absurd (none_is_no_some i (sym z))
      go true q z ih zero h = rw (add-zero, q) tt
      go true q z ih (suc m) h = let k : i + suc m ≡ suc i + m = omega arith in rw k (ih z m (omega arith))

  module _ (faultless : fault_of rs ≡ none) where
    -- the count is in range
    pub sound-count : (0 < length rs) × (length rs ≤ max_nodes) × (fault_from rs 0 rs ≡ none)
    unfolding fault_of
    sound-count = search arith

    pub has_root : 0 < length nodes
    has_root = rw same_length sound-count.0

    -- the node in order, its children two, its parent one, its depth right
    abbrev Fine : ℕ → Type 0
    Fine i = T (is_orderly (length nodes) i (pred_at i) (get_or nodes i leaf)) × T (has_two_children (get_or nodes i leaf)) × T (has_one_parent nodes i) × T (has_depth rs i (depth_at i))

    fine : (i : ℕ) → i < length nodes → Fine i
    fine i h = parted (rw (node_at i, same_length) (rw zero-add at (fine-from 0 rs sound-count.2 i (rw same_length at h))))
      where
        parted : T (is_orderly (length nodes) i (pred_at i) (get_or nodes i leaf) && (has_two_children (get_or nodes i leaf) && (has_one_parent nodes i && has_depth rs i (depth_at i)))) → Fine i
        parted t =
            let u = and_r (is_orderly (length nodes) i (pred_at i) (get_or nodes i leaf)) _ t in
            let v = and_r (has_two_children (get_or nodes i leaf)) _ u in
            (and_l _ _ t, and_l _ _ u, and_l _ _ v, and_r (has_one_parent nodes i) _ v)

    pub orderly : (i : ℕ) → i < length nodes → T (is_orderly (length nodes) i (pred_at i) (get_or nodes i leaf))
    orderly i h = (fine i h).0

    forward : (i : ℕ) → i < length nodes → Forward (length nodes) i (get_or nodes i leaf)
    forward i h = go (get_or nodes i leaf) (orderly i h)
      where
        go : (m : Node) → T (is_orderly (length nodes) i (pred_at i) m) → Forward (length nodes) i m
        go leaf t = tt
        go (split prop val gt le) t =
            let u = and_r (ltb prop props_per_row) _ t in
            let down = and_l (ltb i gt && ltb i le) _ u in
            let low = and_r (ltb i gt && ltb i le) (ltb gt (length nodes) && ltb le (length nodes)) u in (
              ltb→lt i gt (and_l (ltb i gt) (ltb i le) down),
              ltb→lt i le (and_r (ltb i gt) (ltb i le) down),
              ltb→lt gt (length nodes) (and_l (ltb gt (length nodes)) (ltb le (length nodes)) low),
              ltb→lt le (length nodes) (and_r (ltb gt (length nodes)) (ltb le (length nodes)) low),
            )

    counted-once : (c : ℕ) → 0 < c → c < length nodes → count_if (has_child c) nodes ≡ 1
    counted-once c pos h = eqb→eq (count_if (has_child c) nodes) 1
        (or_other (eqb c 0) (eqb (count_if (has_child c) nodes) 1) (eqb-other c 0 (λ (e : c ≡ 0). lt_irrefl 0 (omega arith)))
        (fine c h).2)

    two_children : (a : ℕ) → Twins (get_or nodes a leaf)
    two_children a = elim (dec_lt a (length nodes)) [ yes h ↦ twins (get_or nodes a leaf) (fine a h).1 | no h ↦ beyond (omega arith) ]
      where
        twins : (m : Node) → T (has_two_children m) → Twins m
        twins leaf t = tt
        twins (split p v g l) t = λ (e : g ≡ l). T_not (eqb g l) t (rw (e, eqb_same l) tt)

        beyond : length nodes ≤ a → Twins (get_or nodes a leaf)
        beyond h = rw (get_or-eq_default nodes leaf h) tt

    one_parent : (a b c : ℕ) → Child nodes a c → Child nodes b c → a ≡ b
    one_parent a b c h k = elim (ℕ_discrete a b) [ yes q ↦ q | no ne ↦ absurd (elim (dec_lt a b) [ yes q ↦ twice (count-two (has_child c) leaf nodes a b q (omega (arith, cb.0, cb.1)) ta tb) | no q ↦ twice (count-two (has_child c) leaf nodes b a (omega arith) (omega (arith, ca.0, ca.1)) tb ta) ]) ]
      where
        ca : (a < c) × (c < length nodes)
        ca = child-forward nodes forward a c h

        cb : (b < c) × (c < length nodes)
        cb = child-forward nodes forward b c k

        ta : T (has_child c (get_or nodes a leaf))
        ta = child_has (get_or nodes a leaf) c h

        tb : T (has_child c (get_or nodes b leaf))
        tb = child_has (get_or nodes b leaf) c k

        twice : 2 ≤ count_if (has_child c) nodes → ⊥
        twice t = omega (arith, counted-once c (omega (arith, ca.0)) ca.1)

    parents : (k : ℕ) → 0 < k → k < length nodes → (a : ℕ) × Child nodes a k
    parents k pos h = let f = found (has_child k) leaf nodes (omega (arith, counted-once k pos h)) in (f.0, has_child_lem (get_or nodes f.0 leaf) k f.2)

    deep : Deep nodes depth_at
    deep = record {
      root = eqb→eq (depth_at 0) 0 (fine 0 has_root).3;
      child = λ a c h.
          let f = child-forward nodes forward a c h in
          let below = λ (r : Record M). not (has_child c r.node) || eqb (depth_at c) (suc r.depth) in
          let all_below : T (all below rs) = rw (eqb-other c 0 (λ (e : c ≡ 0). lt_irrefl 0 (omega arith))) at (fine c f.1).3 in
          let at_parent = all-at below rs a blank_record (omega (arith, same_length)) all_below in
          eqb→eq (depth_at c) (suc (depth_at a)) (or_other (not (has_child c (get_or rs a blank_record).node)) _ (is_so a c h) at_parent);
    }
      where
        is_so : (a c : ℕ) → Child nodes a c → not (has_child c (get_or rs a blank_record).node) ≡ false
        is_so a c h = ap not (T→true _ (rw (node_at a) at (child_has (get_or nodes a leaf) c h)))

    -- a list without fault is sound
    pub sound : Sound rs
    sound = record {
      rooted = record { family = record { forward = forward; one_parent = one_parent; two_children = two_children }; parents = parents };
      deep = deep;
      fits = λ k h. let i : k < length nodes = rw same_length h in rw (node_at k) at (go (length nodes) k (get_or nodes k leaf) (pred_at k) (orderly k i));
    }
      where
        go : (n i : ℕ) (m : Node) (pred : ℕ) → T (is_orderly n i pred m) → FieldsFit m pred
        go n i leaf pred t = t
        go n i (split prop val gt le) pred t = and_l (ltb prop props_per_row) _ t

  -- ---- and the other way round
  module _ (t : Sound rs) where
    no_fault : (i : ℕ) → i < length nodes → T (is_fine rs i (get_or rs i blank_record))
    no_fault i h = rw (node_at i, same_length) at (and_i (is_orderly (length nodes) i (pred_at i) (get_or nodes i leaf)) (has_two_children (get_or nodes i leaf) && (has_one_parent nodes i && has_depth rs i (depth_at i)))
        (in_order (get_or nodes i leaf) (rw (node_at i) (t.fits i (rw same_length at h))) (t.rooted.family.forward i h))
        (and_i (has_two_children (get_or nodes i leaf)) (has_one_parent nodes i && has_depth rs i (depth_at i)) (two (get_or nodes i leaf) (t.rooted.family.two_children i))
        (and_i (has_one_parent nodes i) (has_depth rs i (depth_at i)) (one (ℕ_discrete i 0)) (deeper (ℕ_discrete i 0)))))
      where
        -- one more than at each split that it is a child of
        below : (a : ℕ) → T (not (has_child i (get_or rs a blank_record).node) || eqb (depth_at i) (suc (depth_at a)))
        below a = go (has_child i (get_or rs a blank_record).node) refl
          where
            go : (b : Bool) → has_child i (get_or rs a blank_record).node ≡ b → T (not b || eqb (depth_at i) (suc (depth_at a)))
            go false e = tt
            go true e = rw (t.deep.child a i (has_child_lem (get_or nodes a leaf) i (rw (node_at a, e) tt)), eqb_same (suc (depth_at a))) tt

        deeper : Dec (i ≡ 0) → T (has_depth rs i (depth_at i))
        deeper (yes e) = rw (e, t.deep.root) tt
        deeper (no ne) = rw (eqb-other i 0 ne) (all-each (λ (r : Record M). not (has_child i r.node) || eqb (depth_at i) (suc r.depth)) rs blank_record (λ a l. below a))

        in_order : (m : Node) → FieldsFit m (pred_at i) → Forward (length nodes) i m → T (is_orderly (length nodes) i (pred_at i) m)
        in_order leaf f w = f
        in_order (split p v g l) f w = and_i (ltb p props_per_row) _ f
            (and_i (ltb i g && ltb i l) _ (and_i (ltb i g) (ltb i l) (lt→ltb i g w.0) (lt→ltb i l w.1)) (and_i (ltb g (length nodes)) (ltb l (length nodes)) (lt→ltb g (length nodes) w.2) (lt→ltb l (length nodes) w.3)))

        two : (m : Node) → Twins m → T (has_two_children m)
        two leaf w = tt
        two (split p v g l) w = not_T (eqb g l) (λ e. w (eqb→eq g l e))

        one : Dec (i ≡ 0) → T (has_one_parent nodes i)
        one (yes e) = or_l (eqb i 0) _ (rw e tt)
        one (no ne) = or_r (eqb i 0) _ (rw (once nodes t.rooted i (omega arith) h) tt)

    none_from : (i : ℕ) (ss : List (Record M)) → i + length ss ≡ length rs → ((m : ℕ) → m < length ss → get_or rs (i + m) blank_record ≡ get_or ss m blank_record) → fault_from rs i ss ≡ none
    unfolding fault_from
    none_from i [] e same = refl
    none_from i (r ∷ ss) e same =
        let q : get_or rs i blank_record ≡ r = rw add-zero at (same 0 (omega arith)) in
        let f : T (is_fine rs i r) = subst (λ (r : Record M). T (is_fine rs i r)) q (no_fault i (omega (arith, same_length))) in
        rw (T→true (is_fine rs i r) f) (none_from (suc i) ss (omega arith) (λ k h. let w : suc i + k ≡ i + suc k = omega arith in rw w (same (suc k) (omega arith))))

    pub sound-faultless : 0 < length rs → length rs ≤ max_nodes → fault_of rs ≡ none
    unfolding fault_of
    sound-faultless low high = search (arith, none_from)
