-- A sound tree is known at one pass in the order of the numbers. Assumes nothing.
use mathlib.Core.Logic.{◌≢◌}
use mathlib.Core.Path.{◌≡◌, refl, sym, ap, ◌∙◌}
use Prim.Native.Nat.{ℕ, suc, ◌+◌, ◌≤◌, ◌<◌}
use native.Mathlib.Numerals.{add-one}
use native.Mathlib.Omega.{arith}
use native.Mathlib.Decide.{ℕ_discrete, dec_lt}
use native.Mathlib.Nat.{lt_irrefl}
use mathlib.Core.Bool.{Bool, true, false, cond}
use mathlib.Core.List.{List}
use lib.ListN.{length, get_or, set, replicate, length-set, length-replicate, get_or-replicate, get_or-eq_default}
use lib.Seq.{get_or-set_same, get_or-set_other}
use borrow.Author.Count.{below_more}
use Rattle.model.specs.Settings.{max_nodes}
use Rattle.model.specs.Single.{singles}
use Rattle.model.specs.Tree.{Node, leaf, Record, blank_record, nodes_of, is_orderly, has_child, has_two_children}
use Rattle.model.specs.Family.{Forward, ChildOf, Child, Twins, Deep}
use Rattle.model.specs.Kept.{FieldsFit}
use Rattle.model.specs.Depths.{depth_in}
use Rattle.model.proofs.Family.{child-forward}
use Rattle.model.proofs.Paths.{T→true}
use Rattle.model.proofs.Sound.{has_child_lem, child_has, Rooted, sound-faultless}
use Rattle.layout.specs.Records.{node_is, no_record}
use Rattle.layout.specs.declared.MaNode.{MaNode}
use Rattle.tree.specs.Trees.{records_in, IsSound, AtMost, Passed}
use Rattle.tree.proofs.Entries.{records-length, record_at_lem, nodes-length, node_at_lem}

-- ---- what the tests of a node say
order-says : (n i pred : ℕ) (m : Node) → is_orderly n i pred m ≡ true → Forward n i m × FieldsFit m pred
order-says n i pred m e = search arith

two-says : (m : Node) → has_two_children m ≡ true → Twins m
two-says m e = search arith

child-in_order : (m : Node) (n i c : ℕ) → Forward n i m → ChildOf m c → (i < c) × (c < n)
child-in_order m n i c f h = search arith

module _ (t : List MaNode) where
  abbrev at : ℕ → MaNode
  at k = get_or t k no_record

  -- node c is a child of node a
  abbrev IsChild : ℕ → ℕ → Type 0
  IsChild a c = ChildOf (node_is (at a)) c

  -- Where i nodes were passed: what is due, and what is known of the nodes passed
  pub record Walked (i : ℕ) (due : List ℕ) : Type 0 where
    pub places : length due ≡ length t
    pub low : AtMost (i + 1) due
    pub root : get_or due 0 0 ≡ 1
    pub lower : (a c : ℕ) → a < i → IsChild a c → get_or due c 0 ≡ suc (suc (at a).depth)
    pub parent : (c : ℕ) → 0 < c → c < length t → 0 < get_or due c 0 → (a : ℕ) × (a < i) × IsChild a c
    pub one_parent : (a b c : ℕ) → a < i → b < i → IsChild a c → IsChild b c → a ≡ b
    pub orderly : (j : ℕ) → j < i → is_orderly (length t) j (at j).info.pred (node_is (at j)) ≡ true
    pub two : (j : ℕ) → j < i → has_two_children (node_is (at j)) ≡ true
    pub depth : (j : ℕ) → j < i → get_or due j 0 ≡ suc (at j).depth

  -- ---- one node more
  module _ (i : ℕ) (due new : List ℕ) (inside : i < length t) (long : length new ≡ length due) (is_due : get_or due i 0 ≡ (at i).depth + 1) (passed : Passed (at i) i due new) (w : Walked i due) where
    order : Forward (length t) i (node_is (at i)) × FieldsFit (node_is (at i)) (at i).info.pred
    order = order-says (length t) i (at i).info.pred (node_is (at i)) (rw w.places at passed.orderly)

    child-behind : (c : ℕ) → IsChild i c → (i < c) × (c < length t)
    child-behind c h = child-in_order (node_is (at i)) (length t) i c order.0 h

    child-test : (c : ℕ) → IsChild i c → has_child c (node_is (at i)) ≡ true
    child-test c h = T→true (has_child c (node_is (at i))) (child_has (node_is (at i)) c h)

    -- what was due stays due
    kept : (c : ℕ) → 0 < get_or due c 0 → get_or new c 0 ≡ get_or due c 0
    kept c pos = elim (dec_lt c (length due)) [ yes h ↦ go h (has_child c (node_is (at i))) refl | no h ↦ absurd (beyond (omega arith)) ]
      where
        go : c < length due → (b : Bool) → has_child c (node_is (at i)) ≡ b → get_or new c 0 ≡ get_or due c 0
        go h true e = absurd (let none = passed.own c e in omega arith)
        go h false e = passed.lower c h ∙ rw e

        beyond : length due ≤ c → ⊥
        beyond h = let none : get_or due c 0 ≡ 0 = get_or-eq_default due 0 h in omega arith

    -- a child of node i is due one deeper than it
    child-due : (c : ℕ) → IsChild i c → get_or new c 0 ≡ suc (suc (at i).depth)
    child-due c h =
        let inside : c < length due = omega (arith, w.places, (child-behind c h).1) in
        passed.lower c inside ∙ rw (child-test c h) (omega arith)

    new_low : AtMost (i + 1 + 1) new
    new_low k h = let inside : k < length due = omega arith in
        rw (passed.lower k inside) (go (has_child k (node_is (at i))) (w.low k inside))
      where
        here : get_or due i 0 ≤ i + 1
        here = w.low i (omega (arith, w.places))

        go : (b : Bool) → get_or due k 0 ≤ i + 1 → cond b (get_or due i 0 + 1) (get_or due k 0) ≤ i + 1 + 1
        go true l = omega (arith, here)
        go false l = omega arith

    new_parent : (c : ℕ) → 0 < c → c < length t → 0 < get_or new c 0 → (a : ℕ) × (a < i + 1) × IsChild a c
    new_parent c low h pos = go (has_child c (node_is (at i))) refl
      where
        place : c < length due
        place = omega (arith, w.places)

        go : (b : Bool) → has_child c (node_is (at i)) ≡ b → (a : ℕ) × (a < i + 1) × IsChild a c
        go true e = (i, omega arith, has_child_lem (node_is (at i)) c (rw e tt))
        go false e =
            let old : get_or new c 0 ≡ get_or due c 0 = passed.lower c place ∙ rw e in
            let p = w.parent c low h (omega arith) in
            (p.0, omega (arith, p.1), p.2)

    -- a child of node i is no other's
    own_child : (a c : ℕ) → a < i → IsChild a c → IsChild i c → ⊥
    own_child a c h old new =
        let due_before = w.lower a c h old in
        let none = passed.own c (child-test c new) in
        omega arith

    new_one_parent : (a b c : ℕ) → a < i + 1 → b < i + 1 → IsChild a c → IsChild b c → a ≡ b
    new_one_parent a b c ha hb ca cb = below_more (λ (a : ℕ). IsChild a c → a ≡ b) i (λ k h ck. below_more (λ (b : ℕ). IsChild b c → k ≡ b) i (λ j l cj. w.one_parent k j c h l ck cj)
        (λ ci. absurd (own_child k c h ck ci)) b hb cb) (λ ci. below_more (λ (b : ℕ). IsChild b c → i ≡ b) i (λ j l cj. absurd (own_child j c l cj ci)) (λ x. refl) b hb cb) a ha ca

    pub walked_on : Walked (i + 1) new
    walked_on = record {
      places = long ∙ w.places;
      low = new_low;
      root = kept 0 (omega (arith, w.root)) ∙ w.root;
      lower = λ a c h child. below_more (λ (a : ℕ). IsChild a c → get_or new c 0 ≡ suc (suc (at a).depth)) i (λ k l ck. let old = w.lower k c l ck in kept c (omega arith) ∙ old) (child-due c) a h child;
      parent = new_parent;
      one_parent = new_one_parent;
      orderly = below_more (λ (j : ℕ). is_orderly (length t) j (at j).info.pred (node_is (at j)) ≡ true) i w.orderly (rw w.places at passed.orderly);
      two = below_more (λ (j : ℕ). has_two_children (node_is (at j)) ≡ true) i w.two passed.two;
      depth = below_more (λ (j : ℕ). get_or new j 0 ≡ suc (at j).depth) i (λ j l. let old = w.depth j l in kept j (omega arith) ∙ old) (kept i (omega arith) ∙ is_due ∙ rw add-one);
    }

  -- ---- before the first node
  module _ (some : 0 < length t) where
    abbrev none_due : List ℕ
    none_due = replicate (length t) 0

    none_long : length none_due ≡ length t
    none_long = length-replicate {A = ℕ} (length t) 0

    abbrev first : List ℕ
    first = set none_due 0 1

    first_root : get_or first 0 0 ≡ 1
    first_root = get_or-set_same {A = ℕ} none_due 0 1 0 (rw none_long some)

    first_other : (k : ℕ) → k ≢ 0 → get_or first k 0 ≡ 0
    first_other k ne = rw (get_or-set_other {A = ℕ} none_due 0 k 1 0 ne) (elim (dec_lt k (length t)) [
      | yes h ↦ get_or-replicate {A = ℕ} (length t) k 0 0 h
      | no h ↦ get_or-eq_default {A = ℕ} none_due 0 (rw none_long (omega arith))
    ])

    first_low : AtMost (0 + 1) first
    first_low k h = elim (ℕ_discrete k 0) [ yes e ↦ rw (e, first_root) (omega arith) | no ne ↦ rw (first_other k ne) (omega arith) ]

    pub walked_first : Walked 0 first
    walked_first = record {
      places = rw (length-set {A = ℕ} none_due 0 1) none_long;
      low = first_low;
      root = first_root;
      lower = λ a c h child. absurd (lt_irrefl 0 (omega arith));
      parent = λ c low h pos. let none = first_other c (λ (e : c ≡ 0). lt_irrefl 0 (omega arith)) in absurd (lt_irrefl 0 (omega arith));
      one_parent = λ a b c ha hb ca cb. absurd (lt_irrefl 0 (omega arith));
      orderly = λ j h. absurd (lt_irrefl 0 (omega arith));
      two = λ j h. absurd (lt_irrefl 0 (omega arith));
      depth = λ j h. absurd (lt_irrefl 0 (omega arith));
    }

  -- ---- behind the last
  module _ (due : List ℕ) (some : 0 < length t) (few : length t ≤ max_nodes) (w : Walked (length t) due) where
    abbrev ns : List Node
    ns = nodes_of (records_in t)

    leaf-beyond : (a : ℕ) → length t ≤ a → get_or ns a leaf ≡ leaf
    leaf-beyond a l = get_or-eq_default ns leaf (omega (arith, nodes-length t))

    within : (a c : ℕ) → Child ns a c → (a < length t) × IsChild a c
    within a c h = elim (dec_lt a (length t)) [ yes l ↦ (l, rw (node_at_lem t a l) at h) | no l ↦ absurd (rw (leaf-beyond a (omega arith)) at h) ]

    says : (k : ℕ) → k < length t → Forward (length t) k (node_is (at k)) × FieldsFit (node_is (at k)) (at k).info.pred
    says k h = order-says (length t) k (at k).info.pred (node_is (at k)) (w.orderly k h)

    rooted : Rooted ns
    rooted = record {
      family = record {
        forward = λ i h. let l : i < length t = rw (nodes-length t) at h in rw (nodes-length t, node_at_lem t i l) (says i l).0;
        one_parent = λ a b c ca cb. let p = within a c ca in let q = within b c cb in w.one_parent a b c p.0 q.0 p.1 q.1;
        two_children = twins;
      };
      parents = λ k low h.
          let l : k < length t = rw (nodes-length t) at h in
          let passed = w.depth k l in
          let p = w.parent k low l (omega arith) in
          (p.0, rw (node_at_lem t p.0 p.1) p.2);
    }
      where
        twins : (a : ℕ) → Twins (get_or ns a leaf)
        twins a = elim (dec_lt a (length t)) [ yes l ↦ rw (node_at_lem t a l) (two-says (node_is (at a)) (w.two a l)) | no l ↦ rw (leaf-beyond a (omega arith)) tt ]

    stored : (k : ℕ) → k < length t → depth_in (records_in t) k ≡ (at k).depth
    stored k h = ap (λ (r : Record singles). r.depth) (record_at_lem t k blank_record h)

    deep : Deep ns (depth_in (records_in t))
    deep = record {
      root = let at_root = w.depth 0 some in stored 0 some ∙ omega (arith, w.root);
      child = λ a c h.
          let p = within a c h in
          let behind : c < length t = rw (nodes-length t) at (child-forward ns rooted.family.forward a c h).1 in
          let passed = w.depth c behind in
          let told = w.lower a c p.0 p.1 in
          let lower : (at c).depth ≡ suc (at a).depth = omega arith in
          stored c behind ∙ lower ∙ ap suc (sym (stored a p.0));
    }

    pub walked_all : IsSound t
    walked_all = sound-faultless (records_in t) (record { rooted = rooted; deep = deep; fits = λ k h. let l : k < length t = rw (records-length t) at h in rw (record_at_lem t k blank_record l) (says k l).1 })
        (rw (records-length t) some) (rw (records-length t) few)
