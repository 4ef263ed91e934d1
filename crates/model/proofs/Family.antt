-- Parents and children in a node list, and the preorder of a tree. Assumes nothing.
use mathlib.Core.Path.{◌≡◌, refl, ap, ◌∙◌, subst}
use mathlib.Core.Logic.{◌≢◌, ◌⊎◌, inl, inr}
use Prim.Native.Nat.{ℕ, suc, ◌≤◌, ◌<◌}
use native.Mathlib.Nat.{lt_irrefl}
use native.Mathlib.Omega.{arith}
use native.Mathlib.Decide.{ℕ_discrete, dec_lt}
use mathlib.Core.List.{List}
use lib.ListN.{length, get_or, get_or-eq_default}
use lib.IntN.{ℤ}
use lib.Dec.{T}
use Rattle.model.specs.Tree.{Node, split, leaf, is_leaf, towards}
use Rattle.model.specs.Family.{AllForward, ChildOf, Child, Twins, Family, Anc, parent, under}
use Rattle.model.proofs.Paths.{grown}
use Rattle.model.proofs.Extended.{extended-at, extended-old, extended-gt, extended-le, length-extended}

pub leaf_no_child : (m : Node) (c : ℕ) → T (is_leaf m) → ChildOf m c → ⊥
leaf_no_child leaf c t h = h
leaf_no_child (split p v g l) c t h = t

-- the way down from a leaf ends
pub anc_no_leaf : {nodes : List Node} {a x : ℕ} → T (is_leaf (get_or nodes a leaf)) → Anc nodes a x → ⊥
anc_no_leaf {nodes} {a} t (parent {c} h) = leaf_no_child (get_or nodes a leaf) c t h
anc_no_leaf {nodes} {a} t (under up h) = anc_no_leaf t up

pub child-forward : (nodes : List Node) → AllForward nodes → (a c : ℕ) → Child nodes a c → (a < c) × (c < length nodes)
child-forward nodes fw a c h = search (arith, get_or-eq_default)

pub towards-child : (ps : List ℤ) (prop : ℕ) (val : ℤ) (gt le : ℕ) → ChildOf (split prop val gt le) (towards ps prop val gt le)
towards-child ps prop val gt le = grind arith

-- ---- the family of a tree with leaf j split
module _ (nodes : List Node) (fam : Family nodes) (j : ℕ) (inside : j < length nodes) (was : T (is_leaf (get_or nodes j leaf))) (prop : ℕ) (val : ℤ) where
  abbrev new : List Node
  new = grown nodes j prop val leaf leaf

  abbrev sp : Node
  sp = split prop val (length nodes) (suc (length nodes))

  pub child-kept : (a c : ℕ) → Child nodes a c → Child new a c
  child-kept a c h = search (arith, child-forward, extended-old)

  pub anc_kept : {a x : ℕ} → Anc nodes a x → Anc new a x
  anc_kept {a} (parent {c} h) = parent (child-kept a c h)
  anc_kept (under {b} {c} up h) = under (anc_kept up) (child-kept b c h)

  pub child_gt_new : Child new j (length nodes)
  child_gt_new = rw (extended-at nodes j sp leaf leaf leaf inside) (inl refl)

  pub child_le_new : Child new j (suc (length nodes))
  child_le_new = rw (extended-at nodes j sp leaf leaf leaf inside) (inr refl)

  -- where a child of the new tree comes from
  pub child-from : (a c : ℕ) → Child new a c → ((a ≡ j) × (length nodes ≤ c)) ⊎ Child nodes a c
  child-from a c h = elim (ℕ_discrete a j) [ yes e ↦ inl (e, at_j e) | no ne ↦ other ne ]
    where
      n : ℕ
      n = length nodes

      split-new : ChildOf sp c → length nodes ≤ c
      split-new (inl e) = omega arith
      split-new (inr e) = omega arith

      at_j : a ≡ j → length nodes ≤ c
      at_j e = split-new (subst (λ (m : Node). ChildOf m c) (ap (λ (k : ℕ). get_or new k leaf) e ∙ extended-at nodes j sp leaf leaf leaf inside) h)

      ends : (k : ℕ) (m : Node) → T (is_leaf m) → a ≡ k → get_or new k leaf ≡ m → ⊥
      ends k m t e q = leaf_no_child m c t (subst (λ (m : Node). ChildOf m c) (ap (λ (k : ℕ). get_or new k leaf) e ∙ q) h)

      beyond : suc (suc (length nodes)) ≤ a → ⊥
      beyond q = subst (λ (m : Node). ChildOf m c) (get_or-eq_default new leaf (omega (arith, length-extended nodes j sp leaf leaf leaf))) h

      other : a ≢ j → ((a ≡ j) × (length nodes ≤ c)) ⊎ Child nodes a c
      other ne = elim (dec_lt a (length nodes)) [
        | yes i ↦ inr (subst (λ (m : Node). ChildOf m c) (extended-old nodes j sp leaf leaf leaf a i ne) h)
        | no i ↦ elim (ℕ_discrete a (length nodes)) [
          | yes e ↦ absurd (ends (length nodes) leaf tt e (extended-gt nodes j sp leaf leaf leaf))
          | no n1 ↦ elim (ℕ_discrete a (suc (length nodes))) [
            | yes e ↦ absurd (ends (suc (length nodes)) leaf tt e (extended-le nodes j sp leaf leaf leaf))
            | no n2 ↦ absurd (beyond (omega arith))
          ]
        ]
      ]

  grown_one_parent : (a b c : ℕ) → Child new a c → Child new b c → a ≡ b
  grown_one_parent a b c h k = search (arith, child-from, child-forward)

  grown_two_children : (a : ℕ) → Twins (get_or new a leaf)
  grown_two_children a = elim (ℕ_discrete a j) [
    | yes e ↦ rw (e, extended-at nodes j sp leaf leaf leaf inside) (λ (q : length nodes ≡ suc (length nodes)). lt_irrefl (length nodes) (omega arith))
    | no ne ↦ elim (dec_lt a (length nodes)) [
      | yes i ↦ rw (extended-old nodes j sp leaf leaf leaf a i ne) (fam.two_children a)
      | no i ↦ elim (ℕ_discrete a (length nodes)) [
        | yes e ↦ rw (e, extended-gt nodes j sp leaf leaf leaf) tt
        | no n1 ↦ elim (ℕ_discrete a (suc (length nodes))) [
          | yes e ↦ rw (e, extended-le nodes j sp leaf leaf leaf) tt
          | no n2 ↦ beyond (omega arith)
        ]
      ]
    ]
  ]
    where
      beyond : suc (suc (length nodes)) ≤ a → Twins (get_or new a leaf)
      beyond q = let h : length new ≤ a = omega (arith, length-extended nodes j sp leaf leaf leaf) in rw (get_or-eq_default new leaf h) tt

  pub grown-family : Family new
  grown-family = record { forward = Rattle.model.proofs.Paths.grown-forward nodes fam.forward j inside was prop val; one_parent = grown_one_parent; two_children = grown_two_children }
