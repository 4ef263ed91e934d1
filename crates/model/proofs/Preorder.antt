-- The preorder of a tree: closed under children, without repetition, parents first. Assumes nothing.
use mathlib.Core.Path.{◌≡◌, refl, sym, ap, ◌∙◌, subst}
use mathlib.Core.Logic.{◌≢◌, ◌⊎◌, inl, inr}
use Prim.Native.Nat.{ℕ, zero, suc, ◌+◌, ◌≤◌, ◌<◌}
use native.Mathlib.Nat.{lt_irrefl, zero-add}
use native.Mathlib.Omega.{arith}
use native.Mathlib.Decide.{ℕ_discrete}
use mathlib.Core.List.Memᴰ
use mathlib.Core.List.{List, [], ◌∷◌, ◌++◌, Memᴰ}
use lib.ListN.{length, get_or}
use lib.IntN.{ℤ}
use Rattle.model.specs.Tree.{Node, split, leaf, below}
use Rattle.model.specs.Prune.{preorder, place_of}
use Rattle.model.specs.Family.{ChildOf, Child, Twins, Family}
use Rattle.model.proofs.Paths.{eqb_same, eqb-other}
use Rattle.model.proofs.Family.{child-forward}

-- ---- places in a list of numbers
abbrev pub NoRepeat : List ℕ → Type 0
NoRepeat [] = Unit {0}
NoRepeat (x ∷ xs) = (Memᴰ x xs → ⊥) × NoRepeat xs

pub no_repeat_append : (xs ys : List ℕ) → NoRepeat xs → NoRepeat ys → ((x : ℕ) → Memᴰ x xs → Memᴰ x ys → ⊥) → NoRepeat (xs ++ ys)
no_repeat_append [] ys p q d = q
no_repeat_append (x ∷ xs) ys p q d =
    (λ m. elim (Memᴰ.append_cases xs m) [ inl a ↦ p.0 a | inr b ↦ d x (Memᴰ.head refl) b ], no_repeat_append xs ys p.1 q (λ z a b. d z (Memᴰ.tail a) b))

pub place-head : (x : ℕ) (xs : List ℕ) → place_of x (x ∷ xs) ≡ 0
unfolding place_of
place-head x xs = rw (eqb_same x)

pub place_tail : (x y : ℕ) (ys : List ℕ) → x ≢ y → place_of x (y ∷ ys) ≡ suc (place_of x ys)
unfolding place_of
place_tail x y ys ne = rw (eqb-other x y ne)

pub place_at : (x : ℕ) (l : List ℕ) → Memᴰ x l → (place_of x l < length l) × (get_or l (place_of x l) 0 ≡ x)
place_at x [] m = absurd (Memᴰ.not-nil m)
place_at x (y ∷ ys) m = elim (ℕ_discrete x y) [ yes e ↦ here e | no ne ↦ there ne (Memᴰ.cases_cons m) (λ k. place_at x ys k) ]
  where
    here : x ≡ y → (place_of x (y ∷ ys) < suc (length ys)) × (get_or (y ∷ ys) (place_of x (y ∷ ys)) 0 ≡ x)
    here e = rw (e, place-head) (omega arith, refl)

    there : x ≢ y → (x ≡ y) ⊎ Memᴰ x ys → (Memᴰ x ys → (place_of x ys < length ys) × (get_or ys (place_of x ys) 0 ≡ x)) → (place_of x (y ∷ ys) < suc (length ys)) × (get_or (y ∷ ys) (place_of x (y ∷ ys)) 0 ≡ x)
    there ne (inl e) ih = absurd (ne e)
    there ne (inr k) ih = rw (place_tail x y ys ne) (let p = ih k in (omega arith, p.1))

pub mem_get_d : (l : List ℕ) (q : ℕ) → q < length l → Memᴰ (get_or l q 0) l
mem_get_d [] q h = absurd (lt_irrefl q (omega arith))
mem_get_d (x ∷ xs) zero h = Memᴰ.head refl
mem_get_d (x ∷ xs) (suc q) h = Memᴰ.tail (mem_get_d xs q (omega arith))

pub place-of : (l : List ℕ) → NoRepeat l → (q : ℕ) → q < length l → place_of (get_or l q 0) l ≡ q
place-of [] nr q h = absurd (lt_irrefl q (omega arith))
place-of (x ∷ xs) nr zero h = place-head x xs
place-of (x ∷ xs) nr (suc q) h =
    place_tail (get_or xs q 0) x xs (λ (e : get_or xs q 0 ≡ x). nr.0 (Memᴰ.cast (sym e) (mem_get_d xs q (omega arith)))) ∙ ap suc (place-of xs nr.1 q (omega arith))

place-left : (x : ℕ) (xs ys : List ℕ) → Memᴰ x xs → place_of x (xs ++ ys) ≡ place_of x xs
place-left x [] ys m = absurd (Memᴰ.not-nil m)
place-left x (z ∷ zs) ys m = elim (ℕ_discrete x z) [ yes e ↦ rw (e, place-head z (zs ++ ys), place-head z zs) | no ne ↦ there ne (Memᴰ.cases_cons m) (λ k. place-left x zs ys k) ]
  where
    there : x ≢ z → (x ≡ z) ⊎ Memᴰ x zs → (Memᴰ x zs → place_of x (zs ++ ys) ≡ place_of x zs) → place_of x ((z ∷ zs) ++ ys) ≡ place_of x (z ∷ zs)
    there ne (inl e) ih = absurd (ne e)
    there ne (inr k) ih = place_tail x z (zs ++ ys) ne ∙ ap suc (ih k) ∙ sym (place_tail x z zs ne)

place-right : (x : ℕ) (xs ys : List ℕ) → (Memᴰ x xs → ⊥) → place_of x (xs ++ ys) ≡ length xs + place_of x ys
place-right x [] ys out = sym (zero-add (place_of x ys))
place-right x (z ∷ zs) ys out = place_tail x z (zs ++ ys) (λ (e : x ≡ z). out (Memᴰ.head e)) ∙ (let ih = place-right x zs ys (λ m. out (Memᴰ.tail m)) in omega arith)

-- ---- the preorder of a tree
module _ (nodes : List Node) (fam : Family nodes) where
  abbrev n : ℕ
  n = length nodes

  abbrev pre : ℕ → ℕ → List ℕ
  pre f r = preorder f nodes r

  abbrev from : ℕ → Node → List ℕ
  from f m = below (λ (c : ℕ). pre f c) m

  -- a member of what lies below a node lies below one of its children
  below-cases : (f x : ℕ) (m : Node) → Memᴰ x (from f m) → (c : ℕ) × ChildOf m c × Memᴰ x (pre f c)
  below-cases f x leaf k = absurd (Memᴰ.not-nil k)
  below-cases f x (split p v g l) k = elim (Memᴰ.append_cases (pre f g) k) [ inl a ↦ (g, inl refl, a) | inr b ↦ (l, inr refl, b) ]

  child-below : (f x : ℕ) (m : Node) (c : ℕ) → ChildOf m c → Memᴰ x (pre f c) → Memᴰ x (from f m)
  child-below f x leaf c h k = absurd h
  child-below f x (split p v g l) c (inl e) k = Memᴰ.append_left (pre f l) (subst (λ (y : ℕ). Memᴰ x (pre f y)) e k)
  child-below f x (split p v g l) c (inr e) k = Memᴰ.append_right (pre f g) (subst (λ (y : ℕ). Memᴰ x (pre f y)) e k)

  -- the root, or a member under a child of the root
  pre-cases : (f r x : ℕ) → Memᴰ x (pre (suc f) r) → (x ≡ r) ⊎ ((c : ℕ) × Child nodes r c × Memᴰ x (pre f c))
  unfolding preorder
  pre-cases f r x m = elim (Memᴰ.cases_cons m) [ inl e ↦ inl e | inr k ↦ inr (below-cases f x (get_or nodes r leaf) k) ]

  pre-under : (f r x c : ℕ) → Child nodes r c → Memᴰ x (pre f c) → Memᴰ x (pre (suc f) r)
  unfolding preorder
  pre-under f r x c h k = Memᴰ.tail (child-below f x (get_or nodes r leaf) c h k)

  pre-none : (r x : ℕ) → Memᴰ x (pre zero r) → ⊥
  unfolding preorder
  pre-none r x m = Memᴰ.not-nil m

  pre-root : (f r : ℕ) → Memᴰ r (pre (suc f) r)
  unfolding preorder
  pre-root f r = Memᴰ.head refl

  pub pre-range : (f r x : ℕ) → r < n → Memᴰ x (pre f r) → (r ≤ x) × (x < n)
  pre-range zero r x h m = absurd (pre-none r x m)
  pre-range (suc f) r x h m = elim (pre-cases f r x m) [ inl e ↦ omega arith | inr k ↦ lift (child-forward nodes fam.forward r k.0 k.1) (pre-range f k.0 x (child-forward nodes fam.forward r k.0 k.1).1 k.2) ]
    where
      lift : {c : ℕ} → (r < c) × (c < n) → (c ≤ x) × (x < n) → (r ≤ x) × (x < n)
      lift p q = omega arith

  -- the root itself is there
  pub root_in : (f r : ℕ) → r < n → n ≤ r + f → Memᴰ r (pre f r)
  root_in zero r h b = absurd (lt_irrefl r (omega arith))
  root_in (suc f) r h b = pre-root f r

  pub pre-closed : (f r x c : ℕ) → r < n → n ≤ r + f → Memᴰ x (pre f r) → Child nodes x c → Memᴰ c (pre f r)
  pre-closed zero r x c h b m k = absurd (pre-none r x m)
  pre-closed (suc f) r x c h b m k = elim (pre-cases f r x m) [
    | inl e ↦ (let w = subst (λ (y : ℕ). Child nodes y c) e k in let p = child-forward nodes fam.forward r c w in pre-under f r c c w (root_in f c p.1 (omega arith)))
    | inr q ↦ (let p = child-forward nodes fam.forward r q.0 q.1 in pre-under f r c q.0 q.1 (pre-closed f q.0 x c p.1 (under_bound r f q.0 p.0 b) q.2 k))
  ]
    where
      under_bound : (r f d : ℕ) → r < d → n ≤ r + suc f → n ≤ d + f
      under_bound r f d h b = omega arith

  pub pre-parent : (f r x : ℕ) → Memᴰ x (pre f r) → (x ≡ r) ⊎ ((p : ℕ) × Memᴰ p (pre f r) × Child nodes p x)
  pre-parent zero r x m = absurd (pre-none r x m)
  pre-parent (suc f) r x m = elim (pre-cases f r x m) [ inl e ↦ inl e | inr q ↦ inr (go q.0 q.1 (pre-parent f q.0 x q.2)) ]
    where
      go : (c : ℕ) → Child nodes r c → (x ≡ c) ⊎ ((p : ℕ) × Memᴰ p (pre f c) × Child nodes p x) → (p : ℕ) × Memᴰ p (pre (suc f) r) × Child nodes p x
      go c h (inl e) = (r, pre-root f r, subst (λ (y : ℕ). Child nodes r y) (sym e) h)
      go c h (inr k) = (k.0, pre-under f r k.0 c h k.1, k.2)

  -- two children of a node have nothing in common below them
  disjoint : (bound f r g l : ℕ) → Child nodes r g → Child nodes r l → g ≢ l → (x : ℕ) → x < bound → Memᴰ x (pre f g) → Memᴰ x (pre f l) → ⊥
  disjoint zero f r g l rg rl ne x h a b = lt_irrefl x (omega arith)
  disjoint (suc bound) f r g l rg rl ne x h a b = go (pre-parent f g x a) (pre-parent f l x b)
      (λ y hy p q. disjoint bound f r g l rg rl ne y hy p q)
    where
      fg : (r < g) × (g < n)
      fg = child-forward nodes fam.forward r g rg

      fl : (r < l) × (l < n)
      fl = child-forward nodes fam.forward r l rl

      above_root : (c p : ℕ) → (r < c) × (c < n) → Memᴰ p (pre f c) → p ≡ r → ⊥
      above_root c p w m e = let q = pre-range f c p w.1 m in omega arith

      go : (x ≡ g) ⊎ ((p : ℕ) × Memᴰ p (pre f g) × Child nodes p x) → (x ≡ l) ⊎ ((p : ℕ) × Memᴰ p (pre f l) × Child nodes p x)
          → ((y : ℕ) → y < bound → Memᴰ y (pre f g) → Memᴰ y (pre f l) → ⊥) → ⊥
      go (inl e) (inl e') ih = ne (sym e ∙ e')
      go (inl e) (inr k) ih = above_root l k.0 fl k.1 (fam.one_parent k.0 r g (subst (λ (y : ℕ). Child nodes k.0 y) e k.2) rg)
      go (inr k) (inl e) ih = above_root g k.0 fg k.1 (fam.one_parent k.0 r l (subst (λ (y : ℕ). Child nodes k.0 y) e k.2) rl)
      go (inr k) (inr k') ih =
          let e = fam.one_parent k.0 k'.0 x k.2 k'.2 in
          let w = child-forward nodes fam.forward k.0 x k.2 in
          ih k.0 (omega arith) k.1 (Memᴰ.cast e k'.1)

  apart : (f r x : ℕ) (p : ℕ) (v : ℤ) (g l : ℕ) → get_or nodes r leaf ≡ split p v g l → Memᴰ x (pre f g) → Memᴰ x (pre f l) → ⊥
  apart f r x p v g l e a b = disjoint (suc x) f r g l (rw e (inl refl)) (rw e (inr refl)) (subst Twins e (fam.two_children r)) x (omega arith) a b

  pub pre_no_repeat : (f r : ℕ) → r < n → NoRepeat (pre f r)
  unfolding preorder
  pre_no_repeat zero r h = tt
  pre_no_repeat (suc f) r h = (λ m. once (below-cases f r (get_or nodes r leaf) m), go (get_or nodes r leaf) refl (λ c q. pre_no_repeat f c q))
    where
      once : (c : ℕ) × Child nodes r c × Memᴰ r (pre f c) → ⊥
      once k = let w = child-forward nodes fam.forward r k.0 k.1 in let q = pre-range f k.0 r w.1 k.2 in lt_irrefl r (omega arith)

      go : (m : Node) → get_or nodes r leaf ≡ m → ((c : ℕ) → c < n → NoRepeat (pre f c)) → NoRepeat (from f m)
      go leaf e ih = tt
      go (split p v g l) e ih =
          let wg = child-forward nodes fam.forward r g (rw e (inl refl)) in
          let wl = child-forward nodes fam.forward r l (rw e (inr refl)) in
          no_repeat_append (pre f g) (pre f l) (ih g wg.1) (ih l wl.1) (λ x a b. apart f r x p v g l e a b)

  -- a parent stands before its children
  pub place-forward : (f r x c : ℕ) → r < n → n ≤ r + f → Memᴰ x (pre f r) → Child nodes x c → place_of x (pre f r) < place_of c (pre f r)
  unfolding preorder
  place-forward zero r x c h b m k = absurd (pre-none r x m)
  place-forward (suc f) r x c h b m k = elim (ℕ_discrete x r) [ yes e ↦ first e | no ne ↦ later ne (λ d hd bd md. place-forward f d x c hd bd md k) (Memᴰ.cases_cons m) ]
    where
      Below : Type 0
      Below = (d : ℕ) → d < n → n ≤ d + f → Memᴰ x (pre f d) → place_of x (pre f d) < place_of c (pre f d)

      w : (x < c) × (c < n)
      w = child-forward nodes fam.forward x c k

      rx : (r ≤ x) × (x < n)
      rx = pre-range (suc f) r x h m

      not_root : c ≢ r
      not_root e = lt_irrefl r (omega (arith, w.0, rx.0))

      first : x ≡ r → place_of x (pre (suc f) r) < place_of c (pre (suc f) r)
      first e = rw (e, place-head r (from f (get_or nodes r leaf)), place_tail c r (from f (get_or nodes r leaf)) not_root) (omega arith)

      both : Below → (mm : Node) → get_or nodes r leaf ≡ mm → Memᴰ x (from f mm) → place_of x (from f mm) < place_of c (from f mm)
      both ih leaf e q = absurd (Memᴰ.not-nil q)
      both ih (split p v g l) e q =
          let wg = child-forward nodes fam.forward r g (rw e (inl refl)) in
          let wl = child-forward nodes fam.forward r l (rw e (inr refl)) in
          elim (Memᴰ.append_cases (pre f g) q) [
            | inl a ↦ (let cg = pre-closed f g x c wg.1 (omega arith) a k in rw (place-left x (pre f g) (pre f l) a, place-left c (pre f g) (pre f l) cg) (ih g wg.1 (omega arith) a))
            | inr a ↦ (let cl = pre-closed f l x c wl.1 (omega arith) a k in
                rw (place-right x (pre f g) (pre f l) (λ z. apart f r x p v g l e z a), place-right c (pre f g) (pre f l) (λ z. apart f r c p v g l e z cl)) (let z = ih l wl.1 (omega arith) a in omega arith))
          ]

      later : x ≢ r → Below → (x ≡ r) ⊎ Memᴰ x (from f (get_or nodes r leaf)) → place_of x (pre (suc f) r) < place_of c (pre (suc f) r)
      later ne ih (inl e) = absurd (ne e)
      later ne ih (inr q) = rw (place_tail x r (from f (get_or nodes r leaf)) ne, place_tail c r (from f (get_or nodes r leaf)) not_root) (let z = both ih (get_or nodes r leaf) refl q in omega arith)
