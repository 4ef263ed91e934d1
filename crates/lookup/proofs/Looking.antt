-- A lookup on records, step by step: a step leads to a node behind it and below the count, and the way ends with what the model's lookup answers.
-- Assumes nothing.
use mathlib.Core.Path.{◌≡◌, refl, sym, ap, ◌∙◌}
use Prim.Native.Nat.{ℕ, zero, suc, ◌+◌, ◌≤◌, ◌<◌}
use native.Mathlib.Nat.{lt_irrefl}
use native.Mathlib.Omega.{arith}
use mathlib.Core.Bool.{Bool, true, false, ◌||◌, and-eq-true_iff}
use mathlib.Core.List.{List, [], ◌∷◌, map}
use mathlib.Core.Option.{none}
use lib.ListN.{length, get_or, take, length-map, get_or-map}
use lib.Seq.{get_or-take}
use lib.IntN.{ℤ}
use lib.Dec.{eqb, ltb, eqb→eq}
use borrow.Author.Tests.{ltb-true, le-ltb, ne_eqb}
use Rattle.model.specs.Settings.{props_per_row, toks_per_row}
use Rattle.model.specs.Single.{singles}
use Rattle.model.specs.Tree.{leaf, Record, blank_record, nodes_of, no_info, towards, reach, leaf_reached, is_orderly, fault_on_way}
use Rattle.model.specs.Lent.{Stored, record_in, stored_node, tree_in}
use Rattle.model.specs.Refuse.{refuse_at, lookup_refusal}
use Rattle.model.specs.Operations.{Outcome, refused, accepted, Found, outcome_of, lookup}
use Rattle.model.proofs.NodeEntries.{length-tree}
use Rattle.model.proofs.Paths.{towards_in}
use Rattle.layout.specs.Records.{stored_of, no_record, node_is}
use Rattle.layout.specs.declared.MaNode.{MaNode}
use Rattle.tree.proofs.Lists.{in_range}
use Rattle.model.specs.Answered.{refusal_of}
use Rattle.model.specs.declared.Refusal.{Refusal}
use Rattle.layout.specs.declared.NodeNumber.{NodeNumber}
use Rattle.std.specs.Prelude.{Result, Ok, Err}
use Rattle.lookup.specs.Ways.{is_split, begun, followed, ended, found_outcome}

-- ---- a step
-- the record's own fields are in range
abbrev pub in_order : MaNode → ℕ → ℕ → Bool
in_order m i count = is_orderly count i m.info.pred (node_is m)

-- the child that a split leads to
abbrev pub child_of : MaNode → List ℤ → ℕ
child_of m ps = towards ps m.prop m.val m.gt m.le

module _ (m : MaNode) (i count : ℕ) (ps : List ℤ) where
  -- an orderly split: its property is one of 24, and its child stands behind it and below the count
  pub split_in_order : in_order m i count ≡ true → is_split m ≡ true → (m.prop < props_per_row) × (i < child_of m ps) × (child_of m ps < count)
  split_in_order o s =
      let all = (and-eq-true_iff (ltb m.prop props_per_row) _).0 (rw s at o) in
      let sides = (and-eq-true_iff _ _).0 all.1 in
      let down = (and-eq-true_iff _ _).0 sides.0 in
      let low = (and-eq-true_iff _ _).0 sides.1 in
      let child = towards_in ps count i m.prop m.val m.gt m.le (ltb-true _ _ down.0, ltb-true _ _ down.1, ltb-true _ _ low.0, ltb-true _ _ low.1) in
      (ltb-true _ _ all.0, child.0, child.1)

-- ---- the tree that the model reads
get_d_any : {A : Type 0} (l : List A) (i : ℕ) (d e : A) → i < length l → get_or l i d ≡ get_or l i e
get_d_any [] i d e h = absurd (lt_irrefl i (omega arith))
get_d_any (x ∷ xs) zero d e h = refl
get_d_any (x ∷ xs) (suc i) d e h = get_d_any xs i d e (omega arith)

module _ (ns : List MaNode) (count : ℕ) (held : count ≤ length ns) where
  abbrev tree : List (Record singles)
  tree = tree_in count (map stored_of ns)

  tree-length : length tree ≡ count
  tree-length = length-tree count (map stored_of ns) (rw (length-map ns stored_of) held)

  record_at_lem : (i : ℕ) → i < count → get_or tree i blank_record ≡ record_in (stored_of (get_or ns i no_record))
  record_at_lem i h =
      let blank : Stored singles = stored_node leaf no_info 0 in
      let long = length-map ns stored_of in
      get_or-map record_in (take count (map stored_of ns)) i blank
      ∙ ap record_in (get_or-take count (map stored_of ns) i blank h ∙ get_d_any (map stored_of ns) i blank (stored_of no_record) (omega arith) ∙ get_or-map stored_of ns i no_record)

  node_at : (i : ℕ) → i < count → get_or (nodes_of tree) i leaf ≡ (record_in (stored_of (get_or ns i no_record))).node
  node_at i h = get_or-map (λ (r : Record singles). r.node) tree i blank_record ∙ ap (λ (r : Record singles). r.node) (record_at_lem i h)

-- ---- the way
module _ (ns : List MaNode) (count : ℕ) (held : count ≤ length ns) (ps : List ℤ) where
  abbrev at : ℕ → MaNode
  at i = get_or ns i no_record

  -- what a lookup answers from node i on, in at most `fuel` steps
  pub answer_from : ℕ → ℕ → Outcome Found
  answer_from fuel i =
      let end = reach fuel (nodes_of (tree ns count held)) ps i in
      outcome_of (refuse_at (fault_on_way fuel (tree ns count held) ps i) 8 none) (record { leaf = end; pred = (get_or (tree ns count held) end blank_record).info.pred })

  module _ (fuel i : ℕ) (h : i < count) where
    answer-fault : in_order (at i) i count ≡ false → answer_from (suc fuel) i ≡ refused (record { number = 8; place = i })
    unfolding answer_from fault_on_way
    answer-fault o = rw (record_at_lem ns count held i h, tree-length ns count held, o)

    answer-end : in_order (at i) i count ≡ true → is_split (at i) ≡ false → answer_from (suc fuel) i ≡ accepted (record { leaf = i; pred = (at i).info.pred })
    unfolding answer_from fault_on_way reach
    answer-end o s = rw (node_at ns count held i h, record_at_lem ns count held i h, tree-length ns count held, o, s, record_at_lem ns count held i h)

    answer-on : in_order (at i) i count ≡ true → is_split (at i) ≡ true → answer_from (suc fuel) i ≡ answer_from fuel (child_of (at i) ps)
    unfolding answer_from fault_on_way reach
    answer-on o s = rw (node_at ns count held i h, record_at_lem ns count held i h, tree-length ns count held, o, s)

  lookup-from : length ps ≡ props_per_row → 0 < count → lookup (map stored_of ns) count ps ≡ answer_from count 0
  unfolding lookup lookup_refusal leaf_reached answer_from
  lookup-from e h = rw (
    e,
    ne_eqb count 0 (λ (z : count ≡ 0). omega arith),
    length-map ns stored_of,
    le-ltb (length ns) count held,
    length-map (tree ns count held) (λ (r : Record singles). r.node),
    tree-length ns count held,
  )

-- ---- from the beginning
module _ (ns : List MaNode) (count : ℕ) (ps : List ℤ) where
  -- 9: not 24 properties
  pub lookup_nine : eqb (length ps) props_per_row ≡ false → lookup (map stored_of ns) count ps ≡ refused (record { number = 9; place = 0 })
  unfolding lookup lookup_refusal
  lookup_nine e = rw e

  -- 8: count zero or beyond the list
  pub lookup_eight : eqb (length ps) props_per_row ≡ true → (eqb count 0 || ltb (length ns) count) ≡ true → lookup (map stored_of ns) count ps ≡ refused (record { number = 8; place = 0 })
  unfolding lookup lookup_refusal
  lookup_eight e t = rw (e, length-map ns stored_of, t)

  -- What holds at node i with `fuel` steps left: the lookup goes on from there, and may meet every node behind it
  pub record Going (fuel i : ℕ) : Type 0 where
    pub inside : i < count
    pub held : count ≤ length ns
    pub enough : count ≤ i + fuel
    pub one : length ps ≡ props_per_row
    pub same : lookup (map stored_of ns) count ps ≡ answer_from ns count held ps fuel i

  pub going_first : eqb (length ps) props_per_row ≡ true → (eqb count 0 || ltb (length ns) count) ≡ false → Going count 0
  going_first e t =
      let counted = in_range count (length ns) t in
      let all : length ps ≡ props_per_row = eqb→eq _ _ (rw e tt) in
      record { inside = counted.0; held = counted.1; enough = omega arith; one = all; same = lookup-from ns count counted.1 ps all counted.0 }

  module _ (i : ℕ) where
    abbrev here : MaNode
    here = get_or ns i no_record

    -- there is a step left
    pub going-more : {fuel : ℕ} → Going fuel i → (k : ℕ) × Going (suc k) i
    going-more {fuel = zero} g = absurd (lt_irrefl i (omega (arith, g.inside, g.enough)))
    going-more {fuel = suc k} g = (k, g)

    pub going_on : (fuel : ℕ) → Going (suc fuel) i → in_order here i count ≡ true → is_split here ≡ true → Going fuel (child_of here ps)
    going_on fuel g o s =
        let child = split_in_order here i count ps o s in
        record {
          inside = child.2;
          held = g.held;
          enough = omega (arith, child.1, g.enough);
          one = g.one;
          same = g.same ∙ answer-on ns count g.held ps fuel i g.inside o s;
        }

    pub going-fault : (fuel : ℕ) → Going (suc fuel) i → in_order here i count ≡ false → lookup (map stored_of ns) count ps ≡ refused (record { number = 8; place = i })
    going-fault fuel g o = g.same ∙ answer-fault ns count g.held ps fuel i g.inside o

    pub going_end : (fuel : ℕ) → Going (suc fuel) i → in_order here i count ≡ true → is_split here ≡ false
        → lookup (map stored_of ns) count ps ≡ accepted (record { leaf = i; pred = here.info.pred })
    going_end fuel g o s = g.same ∙ answer-end ns count g.held ps fuel i g.inside o s

  -- ---- what the code's steps answer: a node from which the way goes on, or the lookup's refusal
  abbrev pub leads : Result NodeNumber Refusal → Type 0
  leads (Ok n) = (fuel : ℕ) × Going fuel n.0
  leads (Err cause) = ◌≡◌ {A = Outcome Found} (refused (refusal_of cause)) (lookup (map stored_of ns) count ps)

  pub begun-leads : leads (begun (length ns) count ps)
  begun-leads = go (eqb (length ps) props_per_row) (eqb count 0 || ltb (length ns) count) refl refl
    where
      go : (e t : Bool) → eqb (length ps) props_per_row ≡ e → (eqb count 0 || ltb (length ns) count) ≡ t → leads (begun (length ns) count ps)
      go false t e et = rw e (sym (lookup_nine e))
      go true true e et = rw (e, et) (sym (lookup_eight e et))
      go true false e et = rw (e, et) (count, going_first e et)

  module _ (i fuel : ℕ) (g : Going fuel i) where
    abbrev m : MaNode
    m = get_or ns i no_record

    pub followed-leads : is_split m ≡ true → leads (followed m i count ps)
    followed-leads s = go (going-more i g) (in_order m i count) refl
      where
        go : (k : ℕ) × Going (suc k) i → (o : Bool) → in_order m i count ≡ o → leads (followed m i count ps)
        go (k, h) true o = rw o (k, going_on i k h o s)
        go (k, h) false o = rw o (sym (going-fault i k h o))

    pub ended-answers : is_split m ≡ false → found_outcome (ended m i) ≡ lookup (map stored_of ns) count ps
    ended-answers s = go (going-more i g) (ltb m.info.pred toks_per_row) refl
      where
        go : (k : ℕ) × Going (suc k) i → (o : Bool) → ltb m.info.pred toks_per_row ≡ o → found_outcome (ended m i) ≡ lookup (map stored_of ns) count ps
        go (k, h) true o = rw o (sym (going_end i k h (rw (s, o)) s))
        go (k, h) false o = rw o (sym (going-fault i k h (rw (s, o))))
