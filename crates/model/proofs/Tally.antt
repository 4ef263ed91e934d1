-- Numbers below n in a list, counted by value: how long a list without repetition is, and how many nodes a tree has. Assumes nothing.
use mathlib.Core.Path.{◌≡◌, refl, sym, ap, ◌∙◌}
use mathlib.Core.Logic.{inl, inr}
use Prim.Native.Nat.{ℕ, zero, suc, ◌+◌, ◌-◌, ◌*◌, ◌≤◌, ◌<◌}
use native.Mathlib.Nat.{lt_irrefl}
use native.Mathlib.Omega.{arith}
use native.Mathlib.Decide.{ℕ_discrete}
use mathlib.Core.Bool.{Bool, true, false, cond, ◌||◌}
use mathlib.Core.List.Memᴰ
use mathlib.Core.List.{List, [], ◌∷◌, ◌++◌, Memᴰ}
use lib.ListN.{length, get_or}
use lib.Dec.{T, eqb, eqb→eq}
use Rattle.model.specs.Lists.{count_if}
use Rattle.model.specs.Tree.{Node, split, leaf, is_leaf, has_child}
use Rattle.model.specs.Learn.{leaf_count}
use Rattle.model.specs.Family.{ChildOf, Child, Twins}
use Rattle.model.proofs.Counting.{count_append}
use Rattle.model.proofs.Paths.{eqb_same, eqb-other}
use Rattle.model.proofs.Family.{child-forward}
use Rattle.model.proofs.Preorder.{NoRepeat}
use Rattle.model.proofs.Sound.{Rooted, once}

abbrev is : ℕ → ℕ → Bool
is k x = eqb x k

-- how often 0, 1, .., n - 1 occur in all
tally : ℕ → List ℕ → ℕ
tally zero l = 0
tally (suc k) l = tally k l + count_if (is k) l

tally_nil : (n : ℕ) → tally n [] ≡ 0
unfolding tally
tally_nil zero = refl
tally_nil (suc n) = let ih = tally_nil n in omega arith

tally-out : (n x : ℕ) (l : List ℕ) → n ≤ x → tally n (x ∷ l) ≡ tally n l
unfolding tally
tally-out zero x l h = refl
tally-out (suc n) x l h = rw (eqb-other x n (λ (e : x ≡ n). lt_irrefl n (omega arith))) (let ih = tally-out n x l (omega arith) in omega arith)

tally_in : (n x : ℕ) (l : List ℕ) → x < n → tally n (x ∷ l) ≡ suc (tally n l)
unfolding tally
tally_in zero x l h = absurd (lt_irrefl x (omega arith))
tally_in (suc n) x l h = elim (ℕ_discrete x n) [ yes e ↦ here e | no ne ↦ rw (eqb-other x n ne) (let ih = tally_in n x l (omega arith) in omega arith) ]
  where
    here : x ≡ n → tally n (x ∷ l) + (cond (eqb x n) 1 0 + count_if (is n) l) ≡ suc (tally n l + count_if (is n) l)
    here e = rw (e, eqb_same n) (let o = tally-out n n l (omega arith) in omega arith)

tally-length : (n : ℕ) (l : List ℕ) → ((x : ℕ) → Memᴰ x l → x < n) → tally n l ≡ length l
tally-length n [] h = tally_nil n
tally-length n (x ∷ xs) h = tally_in n x xs (h x (Memᴰ.head refl)) ∙ ap suc (tally-length n xs (λ y m. h y (Memᴰ.tail m)))

-- ---- without repetition
none_of : (k : ℕ) (l : List ℕ) → (Memᴰ k l → ⊥) → count_if (is k) l ≡ 0
none_of k [] h = refl
none_of k (x ∷ xs) h = rw (eqb-other x k (λ (e : x ≡ k). h (Memᴰ.head (sym e)))) (let ih = none_of k xs (λ m. h (Memᴰ.tail m)) in omega arith)

once_at_most : (k : ℕ) (l : List ℕ) → NoRepeat l → count_if (is k) l ≤ 1
once_at_most k [] h = omega arith
once_at_most k (x ∷ xs) h = search (arith, none_of, once_at_most k xs h.1)

tally_at_most : (n : ℕ) (l : List ℕ) → NoRepeat l → tally n l ≤ n
unfolding tally
tally_at_most zero l h = omega arith
tally_at_most (suc n) l h = let ih = tally_at_most n l h in let o = once_at_most n l h in omega arith

pub short : (n : ℕ) (l : List ℕ) → NoRepeat l → ((x : ℕ) → Memᴰ x l → x < n) → length l ≤ n
short n l nr h = omega (arith, tally-length n l h, tally_at_most n l nr)

-- ---- the children of all splits
children_of : Node → List ℕ
children_of (split p v g l) = g ∷ l ∷ []
children_of leaf = []

children : List Node → List ℕ
children [] = []
children (m ∷ ms) = children_of m ++ children ms

-- a split has two
two-each : (ms : List Node) → length (children ms) + 2 * count_if is_leaf ms ≡ 2 * length ms
unfolding children children_of
two-each [] = refl
two-each (leaf ∷ ms) = let ih = two-each ms in omega arith
two-each (split p v g l ∷ ms) = let ih = two-each ms in omega arith

-- each child once for each parent
by-parent : (k : ℕ) (ms : List Node) → ((a : ℕ) → Twins (get_or ms a leaf)) → count_if (is k) (children ms) ≡ count_if (has_child k) ms
unfolding children children_of
by-parent k [] tw = refl
by-parent k (m ∷ ms) tw = count_append (is k) (children_of m) (children ms) ∙ (let ih = by-parent k ms (λ a. tw (suc a)) in let o = one m (tw 0) in omega arith)
  where
    one : (m : Node) → Twins m → count_if (is k) (children_of m) ≡ cond (has_child k m) 1 0
    one leaf t = refl
    one (split p v g l) t = go (eqb g k) (eqb l k) (eqb→eq g k) (eqb→eq l k)
      where
        go : (a b : Bool) → (T a → g ≡ k) → (T b → l ≡ k) → cond a 1 0 + (cond b 1 0 + 0) ≡ cond (a || b) 1 0
        go true true x y = absurd (t (x tt ∙ sym (y tt)))
        go true false x y = refl
        go false true x y = refl
        go false false x y = refl

children_in_lem : (nodes : List Node) → (c : ℕ) → Memᴰ c (children nodes) → (a : ℕ) × Child nodes a c
unfolding children children_of
children_in_lem [] c m = absurd (Memᴰ.not-nil m)
children_in_lem (n ∷ ns) c m = elim (Memᴰ.append_cases (children_of n) m) [ inl q ↦ (0, first n q) | inr q ↦ (let r = children_in_lem ns c q in (suc r.0, r.1)) ]
  where
    first : (n : Node) → Memᴰ c (children_of n) → ChildOf n c
    first leaf q = Memᴰ.not-nil q
    first (split p v g l) q = elim (Memᴰ.cases_cons q) [ inl e ↦ inl e | inr r ↦ elim (Memᴰ.cases_cons r) [ inl e ↦ inr e | inr s ↦ absurd (Memᴰ.not-nil s) ] ]

-- every node but the first is once a child
module _ (nodes : List Node) (t : Rooted nodes) (rooted : 0 < length nodes) where
  not_first : Memᴰ 0 (children nodes) → ⊥
  not_first m = let r = children_in_lem nodes 0 m in let f = child-forward nodes t.family.forward r.0 0 r.1 in lt_irrefl 0 (omega arith)

  each-once : (n : ℕ) → n < length nodes → tally (suc n) (children nodes) ≡ n
  unfolding tally
  each-once zero h = let z = none_of 0 (children nodes) not_first in omega arith
  each-once (suc n) h = let ih = each-once n (omega arith) in let o = once nodes t (suc n) (omega arith) h in let b = by-parent (suc n) nodes t.family.two_children in omega arith

  -- nodes + 1 = 2 × leaves
  pub tree-count : length nodes + 1 ≡ 2 * leaf_count nodes
  unfolding leaf_count
  tree-count =
      let e : suc (length nodes - 1) ≡ length nodes = omega arith in
      let all = tally-length (length nodes) (children nodes) (λ x m. let r = children_in_lem nodes x m in (child-forward nodes t.family.forward r.0 x r.1).1) in
      let each = each-once (length nodes - 1) (omega arith) in
      let w = two-each nodes in
      let each' : tally (length nodes) (children nodes) ≡ length nodes - 1 = rw e at each in
      omega arith
