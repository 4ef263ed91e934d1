-- A breadth-first walk of a sound tree visits each node once, and the leaves numbered along its order have the contexts. Assumes nothing.
use mathlib.Core.Path.{◌≡◌, refl, sym, ap, ◌∙◌, subst}
use mathlib.Core.Logic.{inl, inr}
use Prim.Native.Nat.{ℕ, zero, suc, ◌+◌, ◌-◌, ◌*◌, ◌≤◌, ◌<◌}
use native.Mathlib.Nat.{lt_irrefl, sub-zero}
use native.Mathlib.Omega.{arith}
use mathlib.Core.Bool.{Bool, true, false, cond, not}
use mathlib.Core.List.Memᴰ
use mathlib.Core.List.{List, [], ◌∷◌, ◌++◌, append-nil, append_assoc, Memᴰ}
use lib.ListN.{length, get_or, set, replicate, length-append, get_or-append}
use lib.Seq.{append_snoc, get_or-append-add}
use lib.IntN.{ℤ}
use lib.Dec.{T, eqb}
use Rattle.model.specs.Lists.{count_if, keep}
use Rattle.model.specs.Tree.{Node, split, leaf, is_leaf, below}
use Rattle.model.specs.Prune.{place_of}
use Rattle.model.specs.Learn.{leaf_count}
use Rattle.model.specs.Contexts.{no_context, contexts_from, contexts_of, breadth_from, breadth_order}
use Rattle.model.specs.Family.{ChildOf, Child, Twins}
use Rattle.model.proofs.Counting.{length-keep, count_at_most}
use Rattle.model.proofs.Paths.{T→true, eqb_same, eqb-other}
use Rattle.model.proofs.Family.{child-forward}
use Rattle.model.proofs.Preorder.{NoRepeat, no_repeat_append, place-of}
use Rattle.model.proofs.Sound.{Rooted, from-root}
use Rattle.model.proofs.Tally.{short, tree-count}

-- ---- lists of numbers
pub mem-keep : (p : ℕ → Bool) (x : ℕ) (l : List ℕ) → Memᴰ x l → T (p x) → Memᴰ x (keep p l)
mem-keep p x [] m t = absurd (Memᴰ.not-nil m)
mem-keep p x (y ∷ ys) m t = elim (Memᴰ.cases_cons m) [
  | inl e ↦ rw (T→true (p y) (rw e at t)) (Memᴰ.head e)
  | inr k ↦ later (p y) (mem-keep p x ys k t)
]
  where
    later : (b : Bool) → Memᴰ x (keep p ys) → Memᴰ x (cond b (y ∷ keep p ys) (keep p ys))
    later true k = Memᴰ.tail k
    later false k = k

abbrev is_not : ℕ → ℕ → Bool
is_not n k = not (eqb k n)

fewer : (n : ℕ) (l : List ℕ) → Memᴰ n l → count_if (is_not n) l < length l
fewer n [] m = absurd (Memᴰ.not-nil m)
fewer n (y ∷ ys) m = elim (Memᴰ.cases_cons m) [
  | inl e ↦ rw (sym e, eqb_same n) (omega (arith, count_at_most (is_not n) ys))
  | inr k ↦ later (is_not n y) (fewer n ys k)
]
  where
    later : (b : Bool) → count_if (is_not n) ys < length ys → cond b 1 0 + count_if (is_not n) ys < suc (length ys)
    later true h = omega arith
    later false h = omega arith

-- a list that holds each number below n is at least n long
covers : (n : ℕ) (l : List ℕ) → ((k : ℕ) → k < n → Memᴰ k l) → n ≤ length l
covers zero l h = omega arith
covers (suc n) l h =
    let others = covers n (keep (is_not n) l) (λ k hk. mem-keep (is_not n) k l (h k (omega arith)) (rw (eqb-other k n (λ (e : k ≡ n). lt_irrefl n (omega arith))) tt)) in
    omega (arith, length-keep (is_not n) l, fewer n l (h n (omega arith)))

-- an element behind others without repetition is none of them
not-before : (i : ℕ) (xs ys : List ℕ) → NoRepeat (xs ++ (i ∷ ys)) → Memᴰ i xs → ⊥
not-before i [] ys nr m = Memᴰ.not-nil m
not-before i (x ∷ xs) ys nr m = elim (Memᴰ.cases_cons m) [ inl e ↦ nr.0 (Memᴰ.append_right xs (Memᴰ.head (sym e))) | inr k ↦ not-before i xs ys nr.1 k ]

-- ---- children, gt before le
abbrev pub children_of : Node → List ℕ
children_of = below (λ (c : ℕ). c ∷ [])

pub child-of : (m : Node) (c : ℕ) → Memᴰ c (children_of m) → ChildOf m c
child-of leaf c k = Memᴰ.not-nil k
child-of (split p v g l) c k = elim (Memᴰ.cases_cons k) [ inl e ↦ inl e | inr r ↦ inr (Memᴰ.eq_of_singleton r) ]

pub of-child : (m : Node) (c : ℕ) → ChildOf m c → Memᴰ c (children_of m)
of-child leaf c h = absurd h
of-child (split p v g l) c (inl e) = Memᴰ.head e
of-child (split p v g l) c (inr e) = Memᴰ.tail (Memᴰ.head e)

two-apart : (m : Node) → Twins m → NoRepeat (children_of m)
two-apart leaf w = tt
two-apart (split p v g l) w = (λ k. w (Memᴰ.eq_of_singleton k), ((λ k. Memᴰ.not-nil k), tt))

-- whether node i is a leaf
abbrev pub leaf_at : List Node → ℕ → Bool
leaf_at nodes i = is_leaf (get_or nodes i leaf)

-- ---- the leaves of a list of nodes, in its order, take the contexts from `next` on
unfoldable pub numbered_along : List Node → List ℕ → ℕ → List ℕ → List ℕ
numbered_along nodes [] next contexts = contexts
numbered_along nodes (i ∷ order) next contexts =
    elim (get_or nodes i leaf) [
      | split prop val gt le ↦ numbered_along nodes order next contexts
      | leaf ↦ numbered_along nodes order (suc next) (set contexts i next)
    ]

module _ (nodes : List Node) where
  pub along_end : (next : ℕ) (contexts : List ℕ) → numbered_along nodes [] next contexts ≡ contexts
  unfolding numbered_along
  along_end next contexts = refl

  pub along_split : (i : ℕ) (order : List ℕ) (next : ℕ) (contexts : List ℕ) {p : ℕ} {v : ℤ} {g l : ℕ} → get_or nodes i leaf ≡ split p v g l
      → numbered_along nodes (i ∷ order) next contexts ≡ numbered_along nodes order next contexts
  unfolding numbered_along
  along_split i order next contexts e = rw (e, numbered_along)

  pub along_leaf : (i : ℕ) (order : List ℕ) (next : ℕ) (contexts : List ℕ) → get_or nodes i leaf ≡ leaf
      → numbered_along nodes (i ∷ order) next contexts ≡ numbered_along nodes order (suc next) (set contexts i next)
  unfolding numbered_along
  along_leaf i order next contexts e = rw (e, numbered_along)

  -- the contexts are numbered along the order of the walk, whatever the nodes
  numbered-from : (fuel : ℕ) (queue : List ℕ) (next : ℕ) (contexts : List ℕ)
      → contexts_from fuel nodes queue next contexts ≡ numbered_along nodes (breadth_from fuel nodes queue) next contexts
  unfolding contexts_from breadth_from numbered_along
  numbered-from zero queue next contexts = refl
  numbered-from (suc fuel) [] next contexts = refl
  numbered-from (suc fuel) (i ∷ queue) next contexts = go (get_or nodes i leaf) refl (numbered-from fuel)
    where
      go : (m : Node) → get_or nodes i leaf ≡ m
          → ((queue : List ℕ) (next : ℕ) (contexts : List ℕ) → contexts_from fuel nodes queue next contexts ≡ numbered_along nodes (breadth_from fuel nodes queue) next contexts)
          → contexts_from (suc fuel) nodes (i ∷ queue) next contexts ≡ numbered_along nodes (i ∷ breadth_from fuel nodes (queue ++ children_of (get_or nodes i leaf))) next contexts
      go (split p v g l) here ih = rw (here, contexts_from, numbered_along, here) (ih (queue ++ (g ∷ l ∷ [])) next contexts)
      go leaf here ih = rw (here, contexts_from, numbered_along, here, append-nil queue) (ih queue (suc next) (set contexts i next))

  pub contexts_along : contexts_of nodes ≡ numbered_along nodes (breadth_order nodes) 0 (replicate (length nodes) no_context)
  unfolding contexts_of breadth_order
  contexts_along = numbered-from (length nodes) (0 ∷ []) 0 (replicate (length nodes) no_context)

  -- ---- the walk
  -- the children of the nodes in a list, in their order
  abbrev pub children_in : List ℕ → List ℕ
  children_in [] = []
  children_in (i ∷ is) = children_of (get_or nodes i leaf) ++ children_in is

  children-last : (l : List ℕ) (i : ℕ) → children_in (l ++ (i ∷ [])) ≡ children_in l ++ children_of (get_or nodes i leaf)
  children-last [] i = append-nil (children_of (get_or nodes i leaf))
  children-last (k ∷ ks) i = ap (λ (l : List ℕ). children_of (get_or nodes k leaf) ++ l) (children-last ks i) ∙ sym (append_assoc (children_of (get_or nodes k leaf)) (children_in ks) (children_of (get_or nodes i leaf)))

  -- two for each split
  length-children : (l : List ℕ) → length (children_in l) + 2 * count_if (leaf_at nodes) l ≡ 2 * length l
  length-children [] = refl
  length-children (i ∷ is) = search (arith, length-children is)

  pub parent_in : (l : List ℕ) (c : ℕ) → Memᴰ c (children_in l) → (a : ℕ) × Memᴰ a l × Child nodes a c
  parent_in [] c m = absurd (Memᴰ.not-nil m)
  parent_in (i ∷ is) c m = elim (Memᴰ.append_cases (children_of (get_or nodes i leaf)) m) [
    | inl k ↦ (i, Memᴰ.head refl, child-of (get_or nodes i leaf) c k)
    | inr k ↦ (let r = parent_in is c k in (r.0, Memᴰ.tail r.1, r.2))
  ]

  pub child_in : (l : List ℕ) (a c : ℕ) → Memᴰ a l → Child nodes a c → Memᴰ c (children_in l)
  child_in [] a c m h = absurd (Memᴰ.not-nil m)
  child_in (i ∷ is) a c m h = elim (Memᴰ.cases_cons m) [
    | inl e ↦ Memᴰ.append_left (children_in is) (of-child (get_or nodes i leaf) c (rw e at h))
    | inr k ↦ Memᴰ.append_right (children_of (get_or nodes i leaf)) (child_in is a c k h)
  ]

  -- `done` were visited, in this order, and `queue` waits
  pub record Breadth (done queue : List ℕ) : Type 0 where
    pub listed : done ++ queue ≡ 0 ∷ children_in done
    pub no_repeat : NoRepeat (done ++ queue)
    pub ahead : done ++ breadth_from (length nodes - length done) nodes queue ≡ breadth_order nodes

  pub begun : Breadth [] (0 ∷ [])
  unfolding breadth_order
  begun = record { listed = refl; no_repeat = ((λ k. Memᴰ.not-nil k), tt); ahead = rw (sub-zero (length nodes)) }

  -- nothing waits: those visited are the order
  pub order-done : (done : List ℕ) → Breadth done [] → done ≡ breadth_order nodes
  unfolding breadth_from
  order-done done w = sym (append-nil done) ∙ go (length nodes - length done) w.ahead
    where
      go : (fuel : ℕ) → done ++ breadth_from fuel nodes [] ≡ breadth_order nodes → done ++ [] ≡ breadth_order nodes
      go zero e = e
      go (suc fuel) e = e

module _ (nodes : List Node) (t : Rooted nodes) (rooted : 0 < length nodes) where
  module _ (done queue : List ℕ) (w : Breadth nodes done queue) where
    pub inside : (x : ℕ) → Memᴰ x (done ++ queue) → x < length nodes
    inside x m = search (arith, parent_in, child-forward)

    pub few : length done + length queue ≤ length nodes
    few = omega (arith, short (length nodes) (done ++ queue) w.no_repeat inside, length-append done queue)

  -- ---- one visit: node i's children go to the end of the queue
  module _ (done : List ℕ) (i : ℕ) (queue : List ℕ) (w : Breadth nodes done (i ∷ queue)) where
    abbrev children : List ℕ
    children = children_of (get_or nodes i leaf)

    pub not_yet : Memᴰ i done → ⊥
    not_yet = not-before i done queue w.no_repeat

    regrouped : (done ++ (i ∷ [])) ++ (queue ++ children) ≡ (done ++ (i ∷ queue)) ++ children
    regrouped = sym (append_assoc (done ++ (i ∷ [])) queue children) ∙ ap (λ (l : List ℕ). l ++ children) (append_snoc done i queue)

    apart : (x : ℕ) → Memᴰ x (done ++ (i ∷ queue)) → Memᴰ x children → ⊥
    apart x k c = search (arith, child-of, child-forward, parent_in, not_yet)

    turned : done ++ breadth_from (length nodes - length done) nodes (i ∷ queue) ≡ (done ++ (i ∷ [])) ++ breadth_from (length nodes - length (done ++ (i ∷ []))) nodes (queue ++ children)
    unfolding breadth_from
    turned =
        let fuel : length nodes - length done ≡ suc (length nodes - length (done ++ (i ∷ []))) = omega (arith, few done (i ∷ queue) w, length-append done (i ∷ [])) in
        ap (λ (f : ℕ). done ++ breadth_from f nodes (i ∷ queue)) fuel ∙ sym (append_snoc done i (breadth_from (length nodes - length (done ++ (i ∷ []))) nodes (queue ++ children)))

    pub visit : Breadth nodes (done ++ (i ∷ [])) (queue ++ children)
    visit = search (arith, regrouped, children-last, no_repeat_append, two-apart, apart, turned)

  -- ---- nothing waits: each node was visited
  module _ (done : List ℕ) (w : Breadth nodes done []) where
    whole : done ≡ 0 ∷ children_in nodes done
    whole = sym (append-nil done) ∙ w.listed

    pub visited : (k : ℕ) → k < length nodes → Memᴰ k done
    visited = from-root nodes t (λ (k : ℕ). Memᴰ k done) (rw whole (Memᴰ.head refl)) (λ a c child m. rw whole (Memᴰ.tail (child_in nodes done a c m child)))

    pub all-visited : length done ≡ length nodes
    all-visited = omega (arith, few done [] w, covers (length nodes) done visited)

    pub leaves-counted : count_if (leaf_at nodes) done ≡ leaf_count nodes
    leaves-counted = omega (arith, all-visited, ap length whole, length-children nodes done, tree-count nodes t rooted)

  -- ---- the order
  walk_end : (fuel : ℕ) (done queue : List ℕ) → Breadth nodes done queue → fuel + length done ≡ length nodes → (all : List ℕ) × Breadth nodes all []
  walk_end zero done [] w e = (done, w)
  walk_end zero done (i ∷ queue) w e = absurd (lt_irrefl (length done) (omega (arith, few done (i ∷ queue) w)))
  walk_end (suc fuel) done [] w e = (done, w)
  walk_end (suc fuel) done (i ∷ queue) w e = walk_end fuel (done ++ (i ∷ [])) (queue ++ children_of (get_or nodes i leaf)) (visit done i queue w) (omega (arith, length-append done (i ∷ [])))

  pub order-walked : Breadth nodes (breadth_order nodes) []
  order-walked =
      let r = walk_end (length nodes) [] (0 ∷ []) (begun nodes) (omega arith) in
      subst (λ (l : List ℕ). Breadth nodes l []) (order-done nodes r.0 r.1) r.1

  pub order_no_repeat : NoRepeat (breadth_order nodes)
  order_no_repeat = subst NoRepeat (append-nil (breadth_order nodes)) order-walked.no_repeat

  pub order-length : length (breadth_order nodes) ≡ length nodes
  order-length = all-visited (breadth_order nodes) order-walked

  pub order-inside : (x : ℕ) → Memᴰ x (breadth_order nodes) → x < length nodes
  order-inside x m = inside (breadth_order nodes) [] order-walked x (Memᴰ.append_left [] m)

  pub order-visited : (k : ℕ) → k < length nodes → Memᴰ k (breadth_order nodes)
  order-visited = visited (breadth_order nodes) order-walked

  pub order-leaves : count_if (leaf_at nodes) (breadth_order nodes) ≡ leaf_count nodes
  order-leaves = leaves-counted (breadth_order nodes) order-walked

  -- ---- what waits comes next
  front : (fuel : ℕ) (queue : List ℕ) (k : ℕ) → k < length queue → k < fuel → (get_or (breadth_from fuel nodes queue) k 0 ≡ get_or queue k 0) × (k < length (breadth_from fuel nodes queue))
  unfolding breadth_from
  front zero queue k h f = absurd (lt_irrefl k (omega arith))
  front (suc fuel) [] k h f = absurd (lt_irrefl k (omega arith))
  front (suc fuel) (x ∷ queue) zero h f = (refl, omega arith)
  front (suc fuel) (x ∷ queue) (suc k) h f =
      let r = front fuel (queue ++ children_of (get_or nodes x leaf)) k (omega (arith, length-append queue (children_of (get_or nodes x leaf)))) (omega arith) in
      (r.0 ∙ get_or-append queue (children_of (get_or nodes x leaf)) 0 k (omega arith), omega (arith, r.1))

  -- what waits k places behind those visited has its place in the order so far behind them
  pub place-ahead : (done queue : List ℕ) → Breadth nodes done queue → (k : ℕ) → k < length queue → place_of (get_or queue k 0) (breadth_order nodes) ≡ length done + k
  place-ahead done queue w k h =
      let left = breadth_from (length nodes - length done) nodes queue in
      let r = front (length nodes - length done) queue k h (omega (arith, few done queue w)) in
      let at : get_or (breadth_order nodes) (length done + k) 0 ≡ get_or queue k 0 = ap (λ (l : List ℕ). get_or l (length done + k) 0) (sym w.ahead) ∙ get_or-append-add done left k 0 ∙ r.0 in
      let in_order : length done + k < length (breadth_order nodes) = omega (arith, ap length w.ahead, length-append done left, r.1) in
      ap (λ (x : ℕ). place_of x (breadth_order nodes)) (sym at) ∙ place-of (breadth_order nodes) order_no_repeat (length done + k) in_order
