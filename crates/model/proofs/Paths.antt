-- Ways of lookups: in a tree whose children stand after their splits, and in that tree with one leaf split. Assumes nothing.
use mathlib.Core.Path.{◌≡◌, refl, ap, ◌∙◌}
use mathlib.Core.Logic.{◌≢◌}
use Prim.Native.Nat.{ℕ, zero, suc, ◌+◌, ◌≤◌, ◌<◌}
use native.Mathlib.Nat.{lt_irrefl}
use native.Mathlib.Omega.{arith}
use native.Mathlib.Decide.{ℕ_discrete}
use mathlib.Core.Bool.{Bool, true, false, ◌&&◌, ◌||◌}
use mathlib.Core.List.{List}
use lib.ListN.{length, get_or}
use lib.IntN.{ℤ}
use lib.Dec.{T, eqb, eqb_refl}
use Rattle.model.specs.Tree.{Node, split, leaf, is_leaf, towards, follow, reach, leaf_reached}
use Rattle.model.specs.Family.{Forward, AllForward, meets}
use Rattle.model.proofs.Extended.{extended, length-extended, extended-at, extended-old, extended-gt, extended-le}

pub T→true : (b : Bool) → T b → b ≡ true
T→true true t = refl
T→true false t = absurd t

pub eqb_same : (n : ℕ) → eqb n n ≡ true
eqb_same n = T→true (eqb n n) (eqb_refl n)

pub eqb-other : (m n : ℕ) → m ≢ n → eqb m n ≡ false
eqb-other m n h = search arith

pub towards_in : (ps : List ℤ) (n i prop : ℕ) (val : ℤ) (gt le : ℕ) → Forward n i (split prop val gt le) → (i < towards ps prop val gt le) × (towards ps prop val gt le < n)
towards_in ps n i prop val gt le f = search arith

-- a tree with leaf j split: gt and le appended
abbrev pub grown : List Node → ℕ → ℕ → ℤ → Node → Node → List Node
grown nodes j prop val g l = extended nodes j (split prop val (length nodes) (suc (length nodes))) g l

-- ---- more steps than nodes are left change nothing
pub meets-more : (nodes : List Node) → AllForward nodes → (ps : List ℤ) (k fuel i : ℕ) → i < length nodes → length nodes ≤ i + fuel → meets (suc fuel) nodes ps k i ≡ meets fuel nodes ps k i
unfolding meets
meets-more nodes fw ps k zero i h b = absurd (lt_irrefl i (omega arith))
meets-more nodes fw ps k (suc fuel) i h b =
    ap (λ (r : Bool). eqb i k || r) (go (get_or nodes i leaf) (fw i h) (λ c hc. meets-more nodes fw ps k fuel c hc))
  where
    go : (m : Node) → Forward (length nodes) i m → ((c : ℕ) → c < length nodes → length nodes ≤ c + fuel → meets (suc fuel) nodes ps k c ≡ meets fuel nodes ps k c)
        → follow ps false (λ (c : ℕ). meets (suc fuel) nodes ps k c) m ≡ follow ps false (λ (c : ℕ). meets fuel nodes ps k c) m
    go leaf f ih = refl
    go (split prop val gt le) f ih = let t = towards_in ps (length nodes) i prop val gt le f in ih (towards ps prop val gt le) t.1 (omega arith)

-- ---- a lookup ends at a leaf
module _ (nodes : List Node) (fw : AllForward nodes) (ps : List ℤ) where
  reach-leaf : (fuel i : ℕ) → i < length nodes → length nodes ≤ i + fuel → T (is_leaf (get_or nodes (reach fuel nodes ps i) leaf)) × (reach fuel nodes ps i < length nodes)
  unfolding reach
  reach-leaf zero i h k = absurd (lt_irrefl i (omega arith))
  reach-leaf (suc fuel) i h k = go (get_or nodes i leaf) refl (fw i h) (reach-leaf fuel)
    where
      at : ℕ → ℕ
      at c = reach fuel nodes ps c

      go : (m : Node) → get_or nodes i leaf ≡ m → Forward (length nodes) i m → ((i : ℕ) → i < length nodes → length nodes ≤ i + fuel → T (is_leaf (get_or nodes (at i) leaf)) × (at i < length nodes))
          → T (is_leaf (get_or nodes (follow ps i at m) leaf)) × (follow ps i at m < length nodes)
      go leaf e f ih = (rw e tt, h)
      go (split p v g l) e f ih = let d = towards_in ps (length nodes) i p v g l f in ih (towards ps p v g l) d.1 (omega (arith, d.0))

-- from the root
pub reached-leaf : (nodes : List Node) → AllForward nodes → 0 < length nodes → (ps : List ℤ) → T (is_leaf (get_or nodes (leaf_reached nodes ps) leaf)) × (leaf_reached nodes ps < length nodes)
unfolding leaf_reached
reached-leaf nodes fw h ps = reach-leaf nodes fw ps (length nodes) 0 h (omega arith)

-- ---- a leaf is met exactly where the lookup reaches it
pub meets-leaf : (nodes : List Node) (ps : List ℤ) (k : ℕ) → T (is_leaf (get_or nodes k leaf)) → (fuel i : ℕ) → meets fuel nodes ps k i ≡ eqb (reach fuel nodes ps i) k
unfolding meets reach
meets-leaf nodes ps k lf zero i = refl
meets-leaf nodes ps k lf (suc fuel) i = elim (ℕ_discrete i k) [ yes e ↦ here e | no ne ↦ there ne (get_or nodes i leaf) (meets-leaf nodes ps k lf fuel) ]
  where
    stays : (m : Node) → T (is_leaf m) → follow ps k (λ (c : ℕ). reach fuel nodes ps c) m ≡ k
    stays leaf t = refl
    stays (split prop val gt le) t = absurd t

    here : i ≡ k → (eqb i k || follow ps false (λ (c : ℕ). meets fuel nodes ps k c) (get_or nodes i leaf)) ≡ eqb (follow ps i (λ (c : ℕ). reach fuel nodes ps c) (get_or nodes i leaf)) k
    here e = rw (e, eqb_same, stays (get_or nodes k leaf) lf, eqb_same) refl

    there : i ≢ k → (m : Node) → ((c : ℕ) → meets fuel nodes ps k c ≡ eqb (reach fuel nodes ps c) k)
        → (eqb i k || follow ps false (λ (c : ℕ). meets fuel nodes ps k c) m) ≡ eqb (follow ps i (λ (c : ℕ). reach fuel nodes ps c) m) k
    there ne leaf ih = rw (eqb-other i k ne)
    there ne (split prop val gt le) ih = rw (eqb-other i k ne) (ih (towards ps prop val gt le))

-- ---- leaf j of a tree is split
module _ (nodes : List Node) (fw : AllForward nodes) (j : ℕ) (inside : j < length nodes) (was : T (is_leaf (get_or nodes j leaf))) (prop : ℕ) (val : ℤ) where
  abbrev new : List Node
  new = grown nodes j prop val leaf leaf

  abbrev child : List ℤ → ℕ
  child ps = towards ps prop val (length nodes) (suc (length nodes))

  grown-at : get_or new j leaf ≡ split prop val (length nodes) (suc (length nodes))
  grown-at = extended-at nodes j (split prop val (length nodes) (suc (length nodes))) leaf leaf leaf inside

  grown-old : (i : ℕ) → i < length nodes → i ≢ j → get_or new i leaf ≡ get_or nodes i leaf
  grown-old i h ne = extended-old nodes j (split prop val (length nodes) (suc (length nodes))) leaf leaf leaf i h ne

  grown-gt : get_or new (length nodes) leaf ≡ leaf
  grown-gt = extended-gt nodes j (split prop val (length nodes) (suc (length nodes))) leaf leaf leaf

  grown-le : get_or new (suc (length nodes)) leaf ≡ leaf
  grown-le = extended-le nodes j (split prop val (length nodes) (suc (length nodes))) leaf leaf leaf

  length-grown : length new ≡ suc (suc (length nodes))
  length-grown = length-extended nodes j (split prop val (length nodes) (suc (length nodes))) leaf leaf leaf

  pub grown-forward : AllForward new
  grown-forward = search (arith, length-grown, grown-old, grown-at, grown-gt, grown-le)

  -- at a new leaf the way ends
  meets-child : (ps : List ℤ) (k fuel : ℕ) → meets (suc fuel) new ps k (child ps) ≡ eqb (child ps) k
  unfolding meets
  meets-child ps k fuel = search (arith, grown-gt, grown-le)

  child_new : (ps : List ℤ) → length nodes ≤ child ps
  child_new ps = search arith

  leaf-ends : {A : Type 0} (ps : List ℤ) (here : A) (f : ℕ → A) → follow ps here f (get_or nodes j leaf) ≡ here
  leaf-ends ps here f = grind arith

  -- an old node is met as before
  meets_old_from : (ps : List ℤ) (k : ℕ) → k < length nodes → (fuel i : ℕ) → i < length nodes → length nodes ≤ i + fuel → meets (suc fuel) new ps k i ≡ meets fuel nodes ps k i
  unfolding meets
  meets_old_from ps k hk zero i h b = absurd (lt_irrefl i (omega arith))
  meets_old_from ps k hk (suc fuel) i h b = ap (λ (r : Bool). eqb i k || r) (elim (ℕ_discrete i j) [ yes e ↦ at_j e | no ne ↦ other ne (meets_old_from ps k hk fuel) ])
    where
      at_j : i ≡ j → follow ps false (λ (c : ℕ). meets (suc fuel) new ps k c) (get_or new i leaf) ≡ follow ps false (λ (c : ℕ). meets fuel nodes ps k c) (get_or nodes i leaf)
      at_j e = rw (e, leaf-ends ps false (λ (c : ℕ). meets fuel nodes ps k c), grown-at)
          (meets-child ps k fuel ∙ eqb-other (child ps) k (λ (q : child ps ≡ k). lt_irrefl k (omega (arith, child_new ps))))

      other : i ≢ j → ((c : ℕ) → c < length nodes → length nodes ≤ c + fuel → meets (suc fuel) new ps k c ≡ meets fuel nodes ps k c)
          → follow ps false (λ (c : ℕ). meets (suc fuel) new ps k c) (get_or new i leaf) ≡ follow ps false (λ (c : ℕ). meets fuel nodes ps k c) (get_or nodes i leaf)
      other ne ih = rw (grown-old i h ne) (at (get_or nodes i leaf) (fw i h))
        where
          at : (m : Node) → Forward (length nodes) i m → follow ps false (λ (c : ℕ). meets (suc fuel) new ps k c) m ≡ follow ps false (λ (c : ℕ). meets fuel nodes ps k c) m
          at leaf f = refl
          at (split p v gt le) f = let t = towards_in ps (length nodes) i p v gt le f in ih (towards ps p v gt le) t.1 (omega arith)

  -- a new leaf is met where j was and the split leads to it
  meets_new_from : (ps : List ℤ) (k : ℕ) → length nodes ≤ k → (fuel i : ℕ) → i < length nodes → length nodes ≤ i + fuel → meets (suc fuel) new ps k i ≡ (meets fuel nodes ps j i && eqb (child ps) k)
  unfolding meets
  meets_new_from ps k hk zero i h b = absurd (lt_irrefl i (omega arith))
  meets_new_from ps k hk (suc fuel) i h b = rw (eqb-other i k (λ (q : i ≡ k). lt_irrefl i (omega arith))) (elim (ℕ_discrete i j) [ yes e ↦ at_j e | no ne ↦ other ne (meets_new_from ps k hk fuel) ])
    where
      at_j : i ≡ j → follow ps false (λ (c : ℕ). meets (suc fuel) new ps k c) (get_or new i leaf) ≡ ((eqb i j || follow ps false (λ (c : ℕ). meets fuel nodes ps j c) (get_or nodes i leaf)) && eqb (child ps) k)
      at_j e = rw (e, eqb_same, grown-at) (meets-child ps k fuel)

      other : i ≢ j → ((c : ℕ) → c < length nodes → length nodes ≤ c + fuel → meets (suc fuel) new ps k c ≡ (meets fuel nodes ps j c && eqb (child ps) k))
          → follow ps false (λ (c : ℕ). meets (suc fuel) new ps k c) (get_or new i leaf) ≡ ((eqb i j || follow ps false (λ (c : ℕ). meets fuel nodes ps j c) (get_or nodes i leaf)) && eqb (child ps) k)
      other ne ih = rw (eqb-other i j ne, grown-old i h ne) (at (get_or nodes i leaf) (fw i h))
        where
          at : (m : Node) → Forward (length nodes) i m → follow ps false (λ (c : ℕ). meets (suc fuel) new ps k c) m ≡ (follow ps false (λ (c : ℕ). meets fuel nodes ps j c) m && eqb (child ps) k)
          at leaf f = refl
          at (split p v gt le) f = let t = towards_in ps (length nodes) i p v gt le f in ih (towards ps p v gt le) t.1 (omega arith)

  -- ---- from the root
  pub passes-old : (ps : List ℤ) (k : ℕ) → k < length nodes → meets (length new) new ps k 0 ≡ meets (length nodes) nodes ps k 0
  passes-old ps k hk = search (arith, length-grown, meets_old_from, meets-more)

  pub passes-new : (ps : List ℤ) (k : ℕ) → length nodes ≤ k → meets (length new) new ps k 0 ≡ (meets (length nodes) nodes ps j 0 && eqb (child ps) k)
  passes-new ps k hk = search (arith, length-grown, meets_new_from, meets-more)
