-- Pruning keeps a node as it is or makes it a leaf, and never folds a seed's split: what its two sides come to is small, and its own cost is endless.
-- Assumes nothing.
use mathlib.Core.Path.{◌≡◌, refl, sym, ap, ◌∙◌, subst}
use mathlib.Core.Logic.{◌⊎◌, inl}
use Prim.Native.Nat.{ℕ, zero, suc, ◌+◌, ◌-◌, ◌≤◌, ◌<◌}
use native.Mathlib.Nat.{lt_irrefl, zero-add}
use native.Mathlib.Omega.{arith}
use mathlib.Core.Bool.{Bool, true, false, cond, true≢false}
use mathlib.Core.List.{List, [], ◌∷◌, map}
use lib.ListN.{length, get_or, length-map, length-append}
use lib.IntN.{ℤ}
use lib.Dec.{T}
use Rattle.model.specs.Meter.{Meter}
use Rattle.model.specs.Settings.{max_nodes}
use Rattle.model.specs.Rows.{Row}
use Rattle.model.specs.Tree.{Node, split, leaf, is_leaf}
use Rattle.model.specs.Grow.{Entry, State, tree_nodes}
use Rattle.model.specs.Prune.{preorder, Priced, no_priced, as_leaf, kept_price, priced_before, priced_from, pruned_nodes}
use Rattle.model.specs.Family.{Forward}
use Rattle.model.specs.Kept.{entry_at, Invariant, Healthy}
use Rattle.model.proofs.Lawful.{Bounds}
use Rattle.model.proofs.Preorder.{pre-range, pre_no_repeat}
use Rattle.model.proofs.Tally.{short}
use Rattle.model.proofs.Invariant.{node_at}

-- m is n, or a leaf
abbrev pub Folded : Node → Node → Type 0
Folded n m = (m ≡ n) ⊎ T (is_leaf m)

module _ {M : Meter} where
  abbrev becomes : List (Priced M) → List Node
  becomes = map (λ (p : Priced M). p.node)

  decided-folds : (price : M.Cost) (i : ℕ) (e : Entry M) (n : Node) (after : List (Priced M)) → Folded n (priced_before price i e n after).node
  decided-folds price i e leaf after = inl refl
  decided-folds price i e (split prop val gt le) after = grind arith

  folds-from : (price : M.Cost) (i : ℕ) (es : List (Entry M)) (k : ℕ) → Folded (get_or (tree_nodes es) k leaf) (get_or (becomes (priced_from price i es)) k leaf)
  unfolding priced_from
  folds-from price i [] k = inl refl
  folds-from price i (e ∷ es) zero = decided-folds price i e e.node (priced_from price (suc i) es)
  folds-from price i (e ∷ es) (suc k) = folds-from price (suc i) es k

  pub folds : (price : M.Cost) (tree : List (Entry M)) (k : ℕ) → Folded (get_or (tree_nodes tree) k leaf) (get_or (pruned_nodes price tree) k leaf)
  unfolding pruned_nodes
  folds price tree k = folds-from price 0 tree k

  length-priced : (price : M.Cost) (i : ℕ) (es : List (Entry M)) → length (priced_from price i es) ≡ length es
  unfolding priced_from
  length-priced price i [] = refl
  length-priced price i (e ∷ es) = ap suc (length-priced price (suc i) es)

  pub length-pruned : (price : M.Cost) (tree : List (Entry M)) → length (pruned_nodes price tree) ≡ length (tree_nodes tree)
  unfolding pruned_nodes
  length-pruned price tree = length-map (priced_from price 0 tree) (λ (p : Priced M). p.node) ∙ length-priced price 0 tree ∙ sym (length-map tree (λ (e : Entry M). e.node))

  -- ---- how large prices grow: one unit for each node below
  small_much : (B : Bounds M) (n m : ℕ) (t : M.Total) → B.Small m t → B.Small (n + m) t
  small_much B zero m t s = rw zero-add s
  small_much B (suc n) m t s = let e : suc n + m ≡ suc (n + m) = omega arith in rw e (B.small_more t (small_much B n m t s))

  module _ (B : Bounds M) (price : M.Cost) (fair : B.Small 1 (M.total price)) (uses : Bool) (seeds : ℕ → Bool) (given : List Row) (s : State M)
      (inv : Invariant uses seeds given s) (ok : Healthy B.Small seeds given s) (few : length s.tree ≤ max_nodes) where
    abbrev nodes : List Node
    nodes = tree_nodes s.tree

    count-nodes : length nodes ≡ length s.tree
    count-nodes = length-map s.tree (λ (e : Entry M). e.node)

    -- the nodes from i on, itself with it
    below-few : (f i : ℕ) → i < length nodes → length (preorder f nodes i) ≤ max_nodes
    below-few f i h = let n = short (length nodes) (preorder f nodes i) (pre_no_repeat nodes inv.family f i h) (λ x m. (pre-range nodes inv.family f i x h m).1) in omega (arith, count-nodes, n)

    -- entry i, whose later entries are priced small
    module _ (i : ℕ) (h : i < length nodes) (after : List (Priced M))
        (small : (c : ℕ) → i < c → c < length nodes → (f : ℕ) → length nodes ≤ c + f → B.Small (length (preorder f nodes c)) (get_or after (c - suc i) no_priced).priced) where
      abbrev e : Entry M
      e = entry_at s.tree i

      own-cost : seeds i ≡ false → B.Small 1 (M.total e.info.cost)
      own-cost q = ok.costs i (rw count-nodes at h) q

      -- of a split: what its two sides come to, and the unit of its own price
      kept_small : (f p : ℕ) (v : ℤ) (g l : ℕ) → get_or nodes i leaf ≡ split p v g l → Forward (length nodes) i (split p v g l) → length nodes ≤ i + suc f
          → (length (preorder (suc f) nodes i) ≡ suc (length (preorder f nodes g) + length (preorder f nodes l)))
          × B.Small (suc (length (preorder f nodes g) + length (preorder f nodes l))) (kept_price price (get_or after (g - suc i) no_priced) (get_or after (l - suc i) no_priced))
      unfolding preorder
      kept_small f p v g l z w b =
          let size : length (preorder (suc f) nodes i) ≡ suc (length (preorder f nodes g) + length (preorder f nodes l)) = rw z (ap suc (length-append (preorder f nodes g) (preorder f nodes l))) in (
            size,
            B.small_kept (length (preorder f nodes g)) (length (preorder f nodes l)) _ _ price (omega (arith, size, below-few (suc f) i h))
                (small g w.0 w.2 f (omega (arith, w.0))) (small l w.1 w.3 f (omega (arith, w.1))) fair,
          )

      -- a seed's split is kept
      seed_split_kept : (n : Node) → get_or nodes i leaf ≡ n → seeds i ≡ true → T (is_leaf (priced_before price i e n after).node) → T (is_leaf n)
      seed_split_kept leaf z q t = tt
      seed_split_kept (split p v g l) z q t =
          let w : Forward (length nodes) i (split p v g l) = subst (Forward (length nodes) i) z (inv.family.forward i h) in
          let k = kept_small (length nodes) p v g l z w (omega arith) in
          let never = B.endless_above _ (kept_price price (get_or after (g - suc i) no_priced) (get_or after (l - suc i) no_priced)) (omega (arith, k.0, below-few (suc (length nodes)) i h)) k.1 in
          rw (inv.endless i q, never) at t

      -- and every price is small
      priced-small : (n : Node) → get_or nodes i leaf ≡ n → (f : ℕ) → length nodes ≤ i + f → B.Small (length (preorder f nodes i)) (priced_before price i e n after).priced
      unfolding preorder
      priced-small n z zero b = absurd (lt_irrefl i (omega arith))
      priced-small leaf z (suc f) b = rw z (own-cost (inv.own i (rw (node_at s.tree i) at (subst (λ (m : Node). T (is_leaf m)) (sym z) tt))))
      priced-small (split p v g l) z (suc f) b = go (M.at_most (M.total e.info.cost) kp) refl (seeds i) refl
        where
          w : Forward (length nodes) i (split p v g l)
          w = subst (Forward (length nodes) i) z (inv.family.forward i h)

          gp : Priced M
          gp = get_or after (g - suc i) no_priced

          lp : Priced M
          lp = get_or after (l - suc i) no_priced

          kp : M.Total
          kp = kept_price price gp lp

          size : ℕ
          size = length (preorder f nodes g) + length (preorder f nodes l)

          sized : length (preorder (suc f) nodes i) ≡ suc size
          sized = (kept_small f p v g l z w b).0

          kept : B.Small (suc size) kp
          kept = (kept_small f p v g l z w b).1

          go : (c : Bool) → M.at_most (M.total e.info.cost) kp ≡ c → (d : Bool) → seeds i ≡ d
              → B.Small (length (preorder (suc f) nodes i)) (cond c (as_leaf e) (record { node = split p v g l; bits = M.add gp.bits lp.bits; priced = kp })).priced
          go false q d y = rw sized kept
          go true q false y = let u : suc size ≡ size + 1 = omega arith in rw (sized, u) (small_much B size 1 (M.total e.info.cost) (own-cost y))
          go true q true y = absurd (true≢false (sym q ∙ ap (λ (x : M.Cost). M.at_most (M.total x) kp) (inv.endless i y) ∙ B.endless_above (suc size) kp (omega (arith, sized, below-few (suc f) i h)) kept))

    -- ---- all entries, from the last back
    record Suffix (i : ℕ) (es : List (Entry M)) : Type 0 where
      rest : i + length es ≡ length s.tree
      same : (m : ℕ) → m < length es → entry_at s.tree (i + m) ≡ entry_at es m

    tail_of : (i : ℕ) (e : Entry M) (es : List (Entry M)) → Suffix i (e ∷ es) → Suffix (suc i) es
    tail_of i e es x = record { rest = omega (arith, x.rest); same = λ m h. let k : suc i + m ≡ i + suc m = omega arith in rw k (x.same (suc m) (omega arith)) }

    head_of : (i : ℕ) (e : Entry M) (es : List (Entry M)) → Suffix i (e ∷ es) → entry_at s.tree i ≡ e
    head_of i e es x = let z : i + 0 ≡ i = omega arith in rw z at (x.same 0 (omega arith))

    all_small : (i : ℕ) (es : List (Entry M)) → Suffix i es → (k : ℕ) → k < length es → (f : ℕ) → length nodes ≤ i + k + f → B.Small (length (preorder f nodes (i + k))) (get_or (priced_from price i es) k no_priced).priced
    unfolding priced_from
    all_small i [] x k h f b = absurd (lt_irrefl k (omega arith))
    all_small i (y ∷ es) x zero h f b =
        let z : i + 0 ≡ i = omega arith in
        let q = head_of i y es x in
        rw (z, ← q) (priced-small i (omega (arith, count-nodes, x.rest)) (priced_from price (suc i) es) (later i y es x (all_small (suc i) es (tail_of i y es x))) (entry_at s.tree i).node (node_at s.tree i) f (omega arith))
      where
        later : (i : ℕ) (y : Entry M) (es : List (Entry M)) → Suffix i (y ∷ es) → ((k : ℕ) → k < length es → (f : ℕ) → length nodes ≤ suc i + k + f → B.Small (length (preorder f nodes (suc i + k))) (get_or (priced_from price (suc i) es) k no_priced).priced)
            → (c : ℕ) → i < c → c < length nodes → (f : ℕ) → length nodes ≤ c + f → B.Small (length (preorder f nodes c)) (get_or (priced_from price (suc i) es) (c - suc i) no_priced).priced
        later i y es x ih c l m f b = let e : suc i + (c - suc i) ≡ c = omega arith in rw e at (ih (c - suc i) (omega (arith, count-nodes, x.rest)) f (omega arith))
    all_small i (y ∷ es) x (suc k) h f b = let e : suc i + k ≡ i + suc k = omega arith in rw e at (all_small (suc i) es (tail_of i y es x) k (omega arith) f (omega arith))

    seeds-from : (i : ℕ) (es : List (Entry M)) → Suffix i es → (k : ℕ) → k < length es → seeds (i + k) ≡ true → T (is_leaf (get_or (becomes (priced_from price i es)) k leaf)) → T (is_leaf (get_or nodes (i + k) leaf))
    unfolding priced_from
    seeds-from i [] x k h q t = absurd (lt_irrefl k (omega arith))
    seeds-from i (y ∷ es) x zero h q t =
        let z : i + 0 ≡ i = omega arith in
        rw (z, node_at s.tree i) (seed_split_kept i (omega (arith, count-nodes, x.rest)) (priced_from price (suc i) es) small (entry_at s.tree i).node (node_at s.tree i) (rw z at q) (rw (head_of i y es x) t))
      where
        small : (c : ℕ) → i < c → c < length nodes → (f : ℕ) → length nodes ≤ c + f → B.Small (length (preorder f nodes c)) (get_or (priced_from price (suc i) es) (c - suc i) no_priced).priced
        small c l m f b = let e : suc i + (c - suc i) ≡ c = omega arith in rw e at (all_small (suc i) es (tail_of i y es x) (c - suc i) (omega (arith, count-nodes, x.rest)) f (omega arith))
    seeds-from i (y ∷ es) x (suc k) h q t = let e : suc i + k ≡ i + suc k = omega arith in rw e at (seeds-from (suc i) es (tail_of i y es x) k (omega arith) (rw e q) t)

    -- no split of a seed is folded
    pub seeds-unfolded : (k : ℕ) → k < length s.tree → T (is_leaf (get_or (pruned_nodes price s.tree) k leaf)) → seeds k ≡ false
    unfolding pruned_nodes
    seeds-unfolded k h t = go (seeds k) refl
      where
        all : Suffix 0 s.tree
        all = record { rest = zero-add (length s.tree); same = λ m h. rw zero-add }

        go : (b : Bool) → seeds k ≡ b → seeds k ≡ false
        go false q = q
        go true q = inv.own k (rw (node_at s.tree k) at (rw zero-add at (seeds-from 0 s.tree all k h (rw zero-add q) t)))
