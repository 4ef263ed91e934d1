-- The walk from the root with a stack finds the preorder. Assumes nothing.
use mathlib.Core.Path.{◌≡◌, refl, sym, ap, ap₂, ◌∙◌, subst}
use mathlib.Core.Logic.{inl, inr}
use Prim.Native.Nat.{ℕ, zero, suc, ◌+◌, ◌≤◌, ◌<◌}
use native.Mathlib.Omega.{arith}
use native.Mathlib.Decide.{ℕ_discrete}
use mathlib.Core.Bool.{Bool, true, false, true≢false}
use mathlib.Core.List.{List, [], ◌∷◌, ◌++◌, append-nil, append_assoc}
use lib.ListN.{length, get_or, set, length-append, get_or-append}
use lib.Seq.{get_or-set_same, get_or-set_other, append_snoc, get_or-append-add}
use lib.IntN.{ℤ}
use Rattle.model.specs.Tree.{Node, split, leaf, below}
use Rattle.model.specs.Prune.{preorder, place_of}
use Rattle.model.specs.Family.{ChildOf, Family}
use Rattle.model.proofs.Family.{child-forward}
use Rattle.model.proofs.Preorder.{pre-range, pre_no_repeat, place-of}
use Rattle.model.proofs.Tally.{short}
use Rattle.layout.specs.Records.{gt_at, le_at}
use Rattle.layout.specs.declared.MaNode.{MaNode}
use Rattle.preorder.specs.Order.{pushed, ShownAs, ShowsNodes, pending, Ordered}

-- each of them is a node
abbrev pub Each : List Node → List ℕ → Type 0
Each nodes l = (k : ℕ) → k < length l → get_or l k 0 < length nodes

-- where the walk stands: the nodes found and those that wait are all
pub record Walked (nodes : List Node) (order places stack : List ℕ) : Type 0 where
  pub on_stack : Each nodes stack
  pub all : order ++ pending nodes stack ≡ preorder (length nodes) nodes 0
  pub placed : (q : ℕ) → q < length order → get_or places (get_or order q 0) 0 ≡ q

-- the last that was pushed waits in front
pending-top : (nodes : List Node) (stack : List ℕ) (i : ℕ) → pending nodes (stack ++ i ∷ []) ≡ preorder (length nodes) nodes i ++ pending nodes stack
unfolding pending
pending-top nodes [] i = sym (append-nil (preorder (length nodes) nodes i))
pending-top nodes (b ∷ s) i =
    ap (λ (l : List ℕ). l ++ preorder (length nodes) nodes b) (pending-top nodes s i)
    ∙ append_assoc (preorder (length nodes) nodes i) (pending nodes s) (preorder (length nodes) nodes b)

-- of what was pushed, each is a node
each-front : (nodes : List Node) (stack more : List ℕ) → Each nodes (stack ++ more) → Each nodes stack
each-front nodes stack more e k h =
    subst (λ (i : ℕ). i < length nodes) (get_or-append stack more 0 k h) (e k (omega (arith, length-append stack more)))

each-top : (nodes : List Node) (stack : List ℕ) (i : ℕ) → Each nodes (stack ++ i ∷ []) → i < length nodes
each-top nodes stack i e =
    let z : length stack ≡ length stack + 0 = omega arith in
    subst (λ (j : ℕ). j < length nodes) (ap (λ (k : ℕ). get_or (stack ++ i ∷ []) k 0) z ∙ get_or-append-add stack (i ∷ []) 0 0)
    (e (length stack) (omega (arith, length-append stack (i ∷ []))))

each-more : (nodes : List Node) (stack : List ℕ) (i : ℕ) → Each nodes stack → i < length nodes → Each nodes (stack ++ i ∷ [])
each-more nodes stack i e h k lt = elim (ℕ_discrete k (length stack)) [
  | yes z ↦ (let w : k ≡ length stack + 0 = omega arith in rw (w, get_or-append-add stack (i ∷ []) 0 0) h)
  | no ne ↦ (let b : k < length stack = omega (arith, length-append stack (i ∷ [])) in rw (get_or-append stack (i ∷ []) 0 k b) (e k b))
]

-- nothing waits
pub none-waits : (l : List ℕ) → (0 < length l → ⊥) → l ≡ []
none-waits [] h = refl
none-waits (i ∷ is) h = absurd (h (omega arith))

-- at the end
pub walk-done : {nodes : List Node} {order places stack : List ℕ} → Walked nodes order places stack → stack ≡ [] → Ordered nodes order places
unfolding pending
walk-done {nodes} {order} {places} {stack} w z =
    record { order_is = sym (append-nil order) ∙ subst (λ (l : List ℕ). order ++ pending nodes l ≡ preorder (length nodes) nodes 0) z w.all; places_are = w.placed }

module _ (nodes : List Node) (fam : Family nodes) (some : 0 < length nodes) where
  abbrev n : ℕ
  n = length nodes

  abbrev pre : ℕ → List ℕ
  pre i = preorder n nodes i

  -- more fuel than nodes are left changes nothing
  pre-more : (f i : ℕ) → i < n → n ≤ i + f → preorder (suc f) nodes i ≡ preorder f nodes i
  unfolding preorder
  pre-more zero i h b = absurd (omega arith)
  pre-more (suc f) i h b = ap (λ (l : List ℕ). i ∷ l) (go (get_or nodes i leaf) (λ c k. child-forward nodes fam.forward i c k) (λ c hc bc. pre-more f c hc bc))
    where
      go : (m : Node) → ((c : ℕ) → ChildOf m c → (i < c) × (c < n))
          → ((c : ℕ) → c < n → n ≤ c + f → preorder (suc f) nodes c ≡ preorder f nodes c)
          → below (λ (c : ℕ). preorder (suc f) nodes c) m ≡ below (λ (c : ℕ). preorder f nodes c) m
      go leaf fw ih = refl
      go (split p v g l) fw ih =
          let wg = fw g (inl refl) in
          let wl = fw l (inr refl) in
          ap₂ (λ (x y : List ℕ). x ++ y) (ih g wg.1 (omega (arith, wg.0))) (ih l wl.1 (omega (arith, wl.0)))

  pre-step : (i : ℕ) → i < n → pre i ≡ i ∷ below (λ (c : ℕ). pre c) (get_or nodes i leaf)
  unfolding preorder
  pre-step i h = sym (pre-more n i h (omega arith))

  pre-leaf : (i : ℕ) → i < n → get_or nodes i leaf ≡ leaf → pre i ≡ i ∷ []
  pre-leaf i h e = pre-step i h ∙ ap (λ (m : Node). i ∷ below (λ (c : ℕ). pre c) m) e

  pre-split : (i : ℕ) → i < n → (p : ℕ) (v : ℤ) (g l : ℕ) → get_or nodes i leaf ≡ split p v g l → pre i ≡ i ∷ (pre g ++ pre l)
  pre-split i h p v g l e = pre-step i h ∙ ap (λ (m : Node). i ∷ below (λ (c : ℕ). pre c) m) e

  pre-some : (i : ℕ) → i < n → 1 ≤ length (pre i)
  pre-some i h = rw (pre-step i h) (omega arith)

  children_in_lem : (i p : ℕ) (v : ℤ) (g l : ℕ) → get_or nodes i leaf ≡ split p v g l → (g < n) × (l < n)
  children_in_lem i p v g l e = ((child-forward nodes fam.forward i g (rw e (inl refl))).1, (child-forward nodes fam.forward i l (rw e (inr refl))).1)

  pre-three : (i : ℕ) → i < n → (p : ℕ) (v : ℤ) (g l : ℕ) → get_or nodes i leaf ≡ split p v g l → 3 ≤ length (pre i)
  pre-three i h p v g l e =
      let w = children_in_lem i p v g l e in
      rw (pre-split i h p v g l e) (omega (arith, length-append (pre g) (pre l), pre-some g w.0, pre-some l w.1))

  pre-short : length (pre 0) ≤ n
  pre-short = short n (pre 0) (pre_no_repeat nodes fam n 0 some) (λ x m. (pre-range nodes fam n 0 x some m).1)

  pending-long : (stack : List ℕ) → Each nodes stack → length stack ≤ length (pending nodes stack)
  unfolding pending
  pending-long [] on = omega arith
  pending-long (b ∷ s) on =
      omega (arith, length-append (pending nodes s) (pre b), pre-some b (on 0 (omega arith)), pending-long s (λ k h. on (suc k) (omega arith)))

  pub walk_first : (places : List ℕ) → Walked nodes [] places (0 ∷ [])
  unfolding pending
  walk_first places = record {
    on_stack = λ k h. let e : k ≡ 0 = omega arith in rw e some;
    all = refl;
    placed = λ q h. absurd (omega arith);
  }

  -- one node is taken off the stack
  module _ (order places stack : List ℕ) (i : ℕ) (w : Walked nodes order places (stack ++ i ∷ [])) (places_there : n ≤ length places) (kept : Bool) (gt le : ℕ) where
    pub in_n : i < n
    in_n = each-top nodes stack i w.on_stack

    abbrev rest : List ℕ
    rest = pending nodes stack

    opened : order ++ (pre i ++ rest) ≡ pre 0
    opened = ap (λ (l : List ℕ). order ++ l) (sym (pending-top nodes stack i)) ∙ w.all

    size : length order + (length (pre i) + length rest) ≤ n
    size = omega (arith, pre-short, ap length opened, length-append order (pre i ++ rest), length-append (pre i) rest)

    pub found-few : length order < n
    found-few = omega (arith, size, pre-some i in_n)

    under : length stack ≤ length rest
    under = pending-long stack (each-front nodes stack (i ∷ []) w.on_stack)

    module _ (shown : ShownAs (get_or nodes i leaf) kept gt le) where
      -- a split has two children, so there is room for both
      pub push-room : kept ≡ true → length stack + 2 ≤ n
      push-room is = go (get_or nodes i leaf) refl shown
        where
          go : (m : Node) → get_or nodes i leaf ≡ m → ShownAs m kept gt le → length stack + 2 ≤ n
          go leaf e s = absurd (true≢false (sym is ∙ s))
          go (split p v g l) e s = omega (arith, size, under, pre-three i in_n p v g l e)

      abbrev order' : List ℕ
      order' = order ++ i ∷ []

      abbrev places' : List ℕ
      places' = set places i (length order)

      long : length order < length (pre 0)
      long = omega (arith, ap length opened, length-append order (pre i ++ rest), length-append (pre i) rest, pre-some i in_n)

      -- the node that is found is none of those before
      at_place : (q : ℕ) → q < length order → get_or (pre 0) q 0 ≡ get_or order q 0
      at_place q h = ap (λ (l : List ℕ). get_or l q 0) (sym opened) ∙ get_or-append order (pre i ++ rest) 0 q h

      at-found : get_or (pre 0) (length order) 0 ≡ i
      at-found = let z : length order ≡ length order + 0 = omega arith in
          ap (λ (l : List ℕ). get_or l (length order) 0) (sym opened) ∙ ap (λ (k : ℕ). get_or (order ++ (pre i ++ rest)) k 0) z
          ∙ get_or-append-add order (pre i ++ rest) 0 0
          ∙ ap (λ (l : List ℕ). get_or (l ++ rest) 0 0) (pre-step i in_n)

      new : (q : ℕ) → q < length order → get_or order q 0 ≡ i → ⊥
      new q h e =
          let nr = pre_no_repeat nodes fam n 0 some in
          let z : q ≡ length order = sym (place-of (pre 0) nr q (omega (arith, long))) ∙ ap (λ (x : ℕ). place_of x (pre 0)) (at_place q h ∙ e ∙ sym at-found)
          ∙ place-of (pre 0) nr (length order) long in
          omega arith

      placed' : (q : ℕ) → q < length order' → get_or places' (get_or order' q 0) 0 ≡ q
      placed' q h = elim (ℕ_discrete q (length order)) [ yes e ↦ here e | no ne ↦ there ne (omega (arith, length-append order (i ∷ []))) ]
        where
          here : q ≡ length order → get_or places' (get_or order' q 0) 0 ≡ q
          here e = let z : q ≡ length order + 0 = omega arith in
              ap (λ (k : ℕ). get_or places' (get_or order' k 0) 0) z ∙ ap (λ (j : ℕ). get_or places' j 0) (get_or-append-add order (i ∷ []) 0 0)
              ∙ get_or-set_same places i (length order) 0 (omega (arith, in_n)) ∙ sym e

          there : (q ≡ length order → ⊥) → q < length order → get_or places' (get_or order' q 0) 0 ≡ q
          there ne k = rw (get_or-append order (i ∷ []) 0 q k) (get_or-set_other places i (get_or order q 0) (length order) 0 (new q k) ∙ w.placed q k)

      -- its children wait
      both : (p : ℕ) (v : ℤ) (g l : ℕ) → get_or nodes i leaf ≡ split p v g l → Walked nodes order' places' (stack ++ l ∷ g ∷ [])
      both p v g l e =
          let two : (stack ++ l ∷ []) ++ g ∷ [] ≡ stack ++ l ∷ g ∷ [] = append_snoc stack l (g ∷ []) in
          let front = each-front nodes stack (i ∷ []) w.on_stack in
          let waits : pending nodes (stack ++ l ∷ g ∷ []) ≡ pre g ++ (pre l ++ rest) =
          ap (pending nodes) (sym two) ∙ pending-top nodes (stack ++ l ∷ []) g ∙ ap (λ (r : List ℕ). pre g ++ r) (pending-top nodes stack l) in
          record {
            on_stack = subst (Each nodes) two
                (each-more nodes (stack ++ l ∷ []) g (each-more nodes stack l front (children_in_lem i p v g l e).1) (children_in_lem i p v g l e).0);
            all = ap (λ (r : List ℕ). order' ++ r) waits ∙ append_snoc order i (pre g ++ (pre l ++ rest))
                ∙ ap (λ (r : List ℕ). order ++ (i ∷ r)) (sym (append_assoc (pre g) (pre l) rest))
                ∙ sym (ap (λ (r : List ℕ). order ++ (r ++ rest)) (pre-split i in_n p v g l e)) ∙ opened;
            placed = placed';
          }

      alone : get_or nodes i leaf ≡ leaf → Walked nodes order' places' stack
      alone e = record {
        on_stack = each-front nodes stack (i ∷ []) w.on_stack;
        all = append_snoc order i rest ∙ sym (ap (λ (l : List ℕ). order ++ (l ++ rest)) (pre-leaf i in_n e)) ∙ opened;
        placed = placed';
      }

      pub walk-on : Walked nodes order' places' (pushed kept gt le stack)
      walk-on = go (get_or nodes i leaf) refl shown
        where
          go : (m : Node) → get_or nodes i leaf ≡ m → ShownAs m kept gt le → Walked nodes order' places' (pushed kept gt le stack)
          go leaf e s = rw s (alone e)
          go (split p v g l) e s = rw (s.0, s.1, s.2) (both p v g l e)

-- ---- the same of the lists that show the nodes
module _ {nodes : List Node} {tree : List MaNode} {splits : List Bool} (shows : ShowsNodes nodes tree splits)
    (order places stack : List ℕ) (i : ℕ) (w : Walked nodes order places (stack ++ i ∷ [])) (places_there : length tree ≤ length places) where
  taken : i < length nodes
  taken = each-top nodes stack i w.on_stack

  some : 0 < length nodes
  some = omega (arith, taken)

  pub walk_safe : (i < length tree) × (length order < length tree)
  walk_safe =
      (omega (arith, taken, shows.many), omega (arith, found-few nodes shows.family some order places stack i w (omega (arith, shows.many)) (get_or splits i false) (gt_at tree i) (le_at tree i), shows.many))

  pub walk-room : get_or splits i false ≡ true → length stack + 2 ≤ length tree
  walk-room is =
      omega (arith, push-room nodes shows.family some order places stack i w (omega (arith, shows.many)) (get_or splits i false) (gt_at tree i) (le_at tree i) (shows.shown i walk_safe.0) is, shows.many)

  pub walk_turn : Walked nodes (order ++ i ∷ []) (set places i (length order)) (pushed (get_or splits i false) (gt_at tree i) (le_at tree i) stack)
  walk_turn = walk-on nodes shows.family some order places stack i w (omega (arith, shows.many)) (get_or splits i false) (gt_at tree i) (le_at tree i) (shows.shown i walk_safe.0)
