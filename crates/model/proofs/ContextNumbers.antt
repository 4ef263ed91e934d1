-- The contexts of a sound tree number its leaves: each leaf has one of the numbers below the leaf count, and no two the same. Assumes nothing.
use mathlib.Core.Path.{◌≡◌, refl, sym, ap, ◌∙◌, subst}
use mathlib.Core.Logic.{inl, inr}
use Prim.Native.Nat.{ℕ, zero, suc, ◌+◌, ◌<◌}
use native.Mathlib.Nat.{lt_irrefl}
use native.Mathlib.Omega.{arith}
use native.Mathlib.Decide.{dec_lt}
use mathlib.Core.Bool.{Bool, true, false, cond, not}
use mathlib.Core.List.Memᴰ
use mathlib.Core.List.{List, [], ◌∷◌, ◌++◌, append-nil, Memᴰ}
use lib.ListN.{length, get_or, set, replicate, length-append, length-set, length-replicate, get_or-replicate, get_or-append}
use lib.Seq.{get_or-append_seam, get_or-set_same, get_or-set_other}
use lib.IntN.{ℤ}
use lib.Dec.{T}
use Rattle.model.specs.Lists.{keep}
use Rattle.model.specs.Tree.{Node, split, leaf, is_leaf}
use Rattle.model.specs.Prune.{place_of}
use Rattle.model.specs.Learn.{leaf_count}
use Rattle.model.specs.Contexts.{no_context, contexts_from, contexts_of}
use Rattle.model.proofs.Counting.{length-keep}
use Rattle.model.proofs.Preorder.{mem_get_d, place_at}
use Rattle.model.proofs.Sound.{Rooted}
use Rattle.model.proofs.BreadthFirst.{mem-keep, children_of, leaf_at, Breadth, begun, inside, few, not_yet, visit, visited, leaves-counted}

-- ---- lists of numbers
keep-mem : (p : ℕ → Bool) (x : ℕ) (l : List ℕ) → Memᴰ x (keep p l) → Memᴰ x l × T (p x)
keep-mem p x [] m = absurd (Memᴰ.not-nil m)
keep-mem p x (y ∷ ys) m = go (p y) refl m (keep-mem p x ys)
  where
    go : (b : Bool) → p y ≡ b → Memᴰ x (cond b (y ∷ keep p ys) (keep p ys)) → (Memᴰ x (keep p ys) → Memᴰ x ys × T (p x)) → Memᴰ x (y ∷ ys) × T (p x)
    go true q m ih = elim (Memᴰ.cases_cons m) [ inl e ↦ (Memᴰ.head e, rw (e, q) tt) | inr k ↦ (Memᴰ.tail (ih k).0, (ih k).1) ]
    go false q m ih = (Memᴰ.tail (ih m).0, (ih m).1)

keep-last : (p : ℕ → Bool) (l : List ℕ) (i : ℕ) → keep p (l ++ (i ∷ [])) ≡ keep p l ++ cond (p i) (i ∷ []) []
keep-last p [] i = refl
keep-last p (x ∷ xs) i = search (arith, keep-last p xs i)

-- ---- what is promised
pub record Numbers (nodes : List Node) (contexts : List ℕ) : Type 0 where
  pub as_long : length contexts ≡ length nodes
  -- a split has no context
  pub splits : (i : ℕ) → i < length nodes → T (not (is_leaf (get_or nodes i leaf))) → get_or contexts i 0 ≡ no_context
  -- a leaf's lies below the leaf count, no two are the same, and each number is one
  pub leaves : (i : ℕ) → i < length nodes → T (is_leaf (get_or nodes i leaf)) → get_or contexts i 0 < leaf_count nodes
  pub distinct : (i k : ℕ) → i < length nodes → k < length nodes → T (is_leaf (get_or nodes i leaf)) → T (is_leaf (get_or nodes k leaf)) → get_or contexts i 0 ≡ get_or contexts k 0 → i ≡ k
  pub each : (c : ℕ) → c < leaf_count nodes → (i : ℕ) × (i < length nodes) × T (is_leaf (get_or nodes i leaf)) × (get_or contexts i 0 ≡ c)

module _ (nodes : List Node) (t : Rooted nodes) (rooted : 0 < length nodes) where
  -- ---- the walk: `done` were visited, in this order, and `queue` waits
  pub record Walk (done queue : List ℕ) (next : ℕ) (contexts : List ℕ) : Type 0 where
    order : Breadth nodes done queue
    number : next ≡ length (keep (leaf_at nodes) done)
    sized : length contexts ≡ length nodes
    plain : (i : ℕ) → i < length nodes → T (not (leaf_at nodes i)) → get_or contexts i 0 ≡ no_context
    -- a leaf's context is its place among the leaves visited
    placed : (c : ℕ) → c < length (keep (leaf_at nodes) done) → get_or contexts (get_or (keep (leaf_at nodes) done) c 0) 0 ≡ c

  -- nothing waits: each node was visited
  module _ {done : List ℕ} {next : ℕ} {contexts : List ℕ} (w : Walk done [] next contexts) where
    leaf_count_lem : length (keep (leaf_at nodes) done) ≡ leaf_count nodes
    leaf_count_lem = length-keep (leaf_at nodes) done ∙ leaves-counted nodes t rooted done w.order

    place : (i : ℕ) → i < length nodes → T (leaf_at nodes i) → (get_or contexts i 0 < length (keep (leaf_at nodes) done)) × (get_or (keep (leaf_at nodes) done) (get_or contexts i 0) 0 ≡ i)
    place i h l =
        let p = place_at i (keep (leaf_at nodes) done) (mem-keep (leaf_at nodes) i done (visited nodes t rooted done w.order i h) l) in
        let e : get_or contexts i 0 ≡ place_of i (keep (leaf_at nodes) done) = rw p.1 at (w.placed (place_of i (keep (leaf_at nodes) done)) p.0) in
        rw e p

    numbers : Numbers nodes contexts
    numbers = record {
      as_long = w.sized;
      splits = w.plain;
      leaves = λ i h l. rw leaf_count_lem at (place i h l).0;
      distinct = λ i k hi hk li lk e. sym (place i hi li).1 ∙ ap (λ (c : ℕ). get_or (keep (leaf_at nodes) done) c 0) e ∙ (place k hk lk).1;
      each = λ c h.
          let in_order : c < length (keep (leaf_at nodes) done) = rw leaf_count_lem h in
          let m = keep-mem (leaf_at nodes) (get_or (keep (leaf_at nodes) done) c 0) done (mem_get_d (keep (leaf_at nodes) done) c in_order) in
          (get_or (keep (leaf_at nodes) done) c 0, inside nodes t rooted done [] w.order (get_or (keep (leaf_at nodes) done) c 0) (Memᴰ.append_left [] m.0), m.1, w.placed c in_order);
    }

  -- ---- one visit
  module _ {done : List ℕ} {i : ℕ} {queue : List ℕ} {next : ℕ} {contexts : List ℕ} (w : Walk done (i ∷ queue) next contexts) where
    -- a node that waits is one of the list, which is longer than what was visited
    pub waits : (i < length nodes) × (length done < length nodes)
    waits = (inside nodes t rooted done (i ∷ queue) w.order i (Memᴰ.append_right done (Memᴰ.head refl)), omega (arith, few nodes t rooted done (i ∷ queue) w.order))

    -- what a leaf is given, and that those before it keep theirs
    pub given : get_or (set contexts i next) i 0 ≡ next
    given = get_or-set_same contexts i next 0 (omega (arith, w.sized, waits.0))

    pub kept : (k : ℕ) → Memᴰ k done → get_or (set contexts i next) k 0 ≡ get_or contexts k 0
    kept k m = get_or-set_other contexts i k next 0 (λ (same : k ≡ i). not_yet nodes t rooted done i queue w.order (rw same at m))

    ordered : (m : Node) → get_or nodes i leaf ≡ m → Breadth nodes (done ++ (i ∷ [])) (queue ++ children_of m)
    ordered m here = rw here at (visit nodes t rooted done i queue w.order)

    -- a split gives its children to the queue
    pub visit_split : {p : ℕ} {v : ℤ} {g l : ℕ} → get_or nodes i leaf ≡ split p v g l → Walk (done ++ (i ∷ [])) (queue ++ (g ∷ l ∷ [])) next contexts
    visit_split {p} {v} {g} {l} here = record {
      order = ordered (split p v g l) here;
      number = w.number ∙ sym (ap length same);
      sized = w.sized;
      plain = w.plain;
      placed = rw same w.placed;
    }
      where
        same : keep (leaf_at nodes) (done ++ (i ∷ [])) ≡ keep (leaf_at nodes) done
        same = keep-last (leaf_at nodes) done i ∙ rw here (append-nil (keep (leaf_at nodes) done))

    -- a leaf takes the next number
    pub visit_leaf : get_or nodes i leaf ≡ leaf → Walk (done ++ (i ∷ [])) queue (suc next) (set contexts i next)
    visit_leaf here = record {
      order = subst (λ (q : List ℕ). Breadth nodes (done ++ (i ∷ [])) q) (append-nil queue) (ordered leaf here);
      number = omega (arith, w.number, ap length more, length-append (keep (leaf_at nodes) done) (i ∷ []));
      sized = length-set contexts i next ∙ w.sized;
      plain = λ k h s. get_or-set_other contexts i k next 0 (λ (e : k ≡ i). rw (e, here) at s) ∙ w.plain k h s;
      placed = rw more (λ c h. elim (dec_lt c (length (keep (leaf_at nodes) done))) [ yes l ↦ before c l | no l ↦ last c (omega (arith, length-append (keep (leaf_at nodes) done) (i ∷ []))) ]);
    }
      where
        more : keep (leaf_at nodes) (done ++ (i ∷ [])) ≡ keep (leaf_at nodes) done ++ (i ∷ [])
        more = keep-last (leaf_at nodes) done i ∙ rw here

        before : (c : ℕ) → c < length (keep (leaf_at nodes) done) → get_or (set contexts i next) (get_or (keep (leaf_at nodes) done ++ (i ∷ [])) c 0) 0 ≡ c
        before c l =
            let k = get_or (keep (leaf_at nodes) done) c 0 in
            rw (get_or-append (keep (leaf_at nodes) done) (i ∷ []) 0 c l, kept k (keep-mem (leaf_at nodes) k done (mem_get_d (keep (leaf_at nodes) done) c l)).0) (w.placed c l)

        last : (c : ℕ) → c ≡ length (keep (leaf_at nodes) done) → get_or (set contexts i next) (get_or (keep (leaf_at nodes) done ++ (i ∷ [])) c 0) 0 ≡ c
        last c e = rw (e, get_or-append_seam (keep (leaf_at nodes) done) i [] 0, given) w.number

  -- ---- all visits
  walked : (fuel : ℕ) (done queue : List ℕ) (next : ℕ) (contexts : List ℕ) → Walk done queue next contexts → fuel + length done ≡ length nodes → Numbers nodes (contexts_from fuel nodes queue next contexts)
  unfolding contexts_from
  walked zero done [] next contexts w e = numbers w
  walked zero done (i ∷ queue) next contexts w e = absurd (lt_irrefl (length done) (omega (arith, (waits w).1)))
  walked (suc fuel) done [] next contexts w e = numbers w
  walked (suc fuel) done (i ∷ queue) next contexts w e = go (get_or nodes i leaf) refl (walked fuel (done ++ (i ∷ [])))
    where
      go : (m : Node) → get_or nodes i leaf ≡ m
          → ((queue : List ℕ) (next : ℕ) (contexts : List ℕ) → Walk (done ++ (i ∷ [])) queue next contexts → fuel + length (done ++ (i ∷ [])) ≡ length nodes → Numbers nodes (contexts_from fuel nodes queue next contexts))
          → Numbers nodes (elim m [ split prop val gt le ↦ contexts_from fuel nodes (queue ++ (gt ∷ le ∷ [])) next contexts | leaf ↦ contexts_from fuel nodes queue (suc next) (set contexts i next) ])
      go (split p v g l) here ih = ih (queue ++ (g ∷ l ∷ [])) next contexts (visit_split w here) (omega (arith, length-append done (i ∷ [])))
      go leaf here ih = ih queue (suc next) (set contexts i next) (visit_leaf w here) (omega (arith, length-append done (i ∷ [])))

  pub start : Walk [] (0 ∷ []) 0 (replicate (length nodes) no_context)
  start = search (arith, begun, length-replicate, get_or-replicate)

  pub contexts-number : Numbers nodes (contexts_of nodes)
  unfolding contexts_of
  contexts-number = walked (length nodes) [] (0 ∷ []) 0 (replicate (length nodes) no_context) start (omega arith)
