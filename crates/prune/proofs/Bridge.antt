-- The passes over lists that hold a tree are the model's pruning of it. Assumes nothing.
use mathlib.Core.Path.{◌≡◌, refl, sym, ap, ◌∙◌, subst}
use mathlib.Core.Logic.{inl, inr}
use Prim.Native.Nat.{ℕ, ◌-◌, ◌≤◌, ◌<◌}
use native.Mathlib.Omega.{arith}
use mathlib.Core.Bool.{Bool, true, false, not, true≢false}
use mathlib.Core.List.{List, ◌++◌, Memᴰ}
use lib.Seq.{get_or-take, length-take-le}
use lib.ListN.{length, get_or, take, replicate, length-map, length-append, length-replicate, get_or-map}
use lib.IntN.{ℤ, pos}
use lib.Dec.{T, eqb}
use lib.Ieee.{Float}
use Rattle.model.specs.Single.{singles}
use Rattle.model.specs.Tree.{Node, split, leaf, is_leaf}
use Rattle.model.specs.Grow.{Entry, no_entry, tree_nodes}
use Rattle.model.specs.Prune.{preorder, place_of, renumbered, moved, pruned_nodes, pruned_tree}
use Rattle.model.specs.Family.{Forward, ChildOf, Child, Twins, Family}
use Rattle.model.proofs.Preorder.{place_at, mem_get_d}
use Rattle.model.proofs.Folding.{Folded, folds, length-pruned}
use Rattle.model.proofs.Pruned.{closed, length-kept, entry_kept, order-short, old-number}
use Rattle.model.specs.Lent.{stored_node}
use Rattle.layout.specs.Records.{record_of, stored_of, no_record, no_span_record, span_is, kind_at, gt_at, le_at}
use Rattle.layout.specs.Tree.{NodeLists, holding, HasRoom, entry_record, entry_span, info_at, depth_at}
use Rattle.layout.specs.Values.{info_is}
use Rattle.layout.specs.declared.MaNode.{MaNode}
use Rattle.preorder.specs.Order.{ShownAs, ShowsNodes, Walkable, Ordered}
use Rattle.compact.specs.Moves.{node_from, entry_from, entries_from, compacted, AllMovable}
use Rattle.compact.proofs.Moving.{length-entries, entry-at}
use Rattle.prune.specs.Prices.{AllPriceable, ShowsTree, PricedAs}
use Rattle.prune.specs.Held.{HoldsTree, pruned_entries}
use Rattle.layout.proofs.Held.{SameCells, same-cells, room-same, holding-lengths, held_node, held_span, stored_info, stored_depth}
use Rattle.prune.proofs.Held.{held-again, held_same}

module _ {x : NodeLists} {count : ℕ} {price : Float} {tree : List (Entry singles)} {lent : NodeLists} (h : HoldsTree x count price tree lent) where
  abbrev entry : ℕ → Entry singles
  entry i = get_or tree i no_entry

  abbrev front : List MaNode
  front = take count x.nodes

  -- ---- what the lists show
  many : length (tree_nodes tree) ≡ count
  many = length-map tree (λ (e : Entry singles). e.node) ∙ sym h.many

  node : (i : ℕ) → i < count → get_or x.nodes i no_record ≡ entry_record (entry i)
  node i a = ap (λ (y : NodeLists). get_or y.nodes i no_record) h.lists ∙ held_node tree lent i (omega (arith, h.many))

  rows_of : (i : ℕ) → i < count → get_or x.spans i no_span_record ≡ entry_span (entry i)
  rows_of i a = ap (λ (y : NodeLists). get_or y.spans i no_span_record) h.lists ∙ held_span tree lent i (omega (arith, h.many))

  room : HasRoom count x
  room = rw (h.lists, h.many) (room-same (holding-lengths tree lent h.room) h.room)

  pub long : length front ≡ count
  long = length-take-le count x.nodes room.nodes

  front-at : (i : ℕ) → i < count → get_or front i no_record ≡ get_or x.nodes i no_record
  front-at i a = get_or-take count x.nodes i no_record a

  -- the record of node i, by what it is
  record_as : (i : ℕ) → i < count → (m : Node) → (entry i).node ≡ m → get_or x.nodes i no_record ≡ record_of (stored_node m (entry i).info (entry i).depth)
  record_as i a m z = node i a ∙ ap (λ (n : Node). record_of (stored_node n (entry i).info (entry i).depth)) z

  node-is : (i : ℕ) → get_or (tree_nodes tree) i leaf ≡ (entry i).node
  node-is i = get_or-map (λ (e : Entry singles). e.node) tree i no_entry

  -- a split's children stand behind it
  forward : (i : ℕ) → i < count → eqb (kind_at x.nodes i) 1 ≡ true → Forward count i (split 0 (pos 0) (gt_at x.nodes i) (le_at x.nodes i))
  forward i a is = go (entry i).node refl
    where
      go : (m : Node) → (entry i).node ≡ m → Forward count i (split 0 (pos 0) (gt_at x.nodes i) (le_at x.nodes i))
      go leaf z = absurd (true≢false (sym is ∙ ap (λ (r : MaNode). eqb r.kind 1) (record_as i a leaf z)))
      go (split p v g l) z =
          let f : Forward (length (tree_nodes tree)) i (split p v g l) = subst (Forward (length (tree_nodes tree)) i) (node-is i ∙ z)
          (h.family.forward i (omega (arith, many))) in
          rw (gt_at, le_at, record_as i a (split p v g l) z, ← many) (f.0, f.1, f.2, f.3)

  pub shows-tree : ShowsTree tree front
  shows-tree = record {
    many = long ∙ h.many;
    nodes_are = λ i a. let b : i < count = omega (arith, long) in front-at i b ∙ node i b;
    forward = λ i a is. let b : i < count = omega (arith, long) in let f = forward i b (rw (kind_at, front-at i b) at is) in rw (gt_at, le_at, front-at i b) (f.0, f.1);
  }

  -- ---- the nodes once they are priced
  abbrev pn : List Node
  pn = pruned_nodes price tree

  length-pn : length pn ≡ count
  length-pn = length-pruned price tree ∙ many

  folded : (i : ℕ) → Folded (entry i).node (get_or pn i leaf)
  folded i = rw (node-is i) at (folds price tree i)

  -- a split that is kept is the old one
  kept-split : (i p : ℕ) (v : ℤ) (g l : ℕ) → get_or pn i leaf ≡ split p v g l → (entry i).node ≡ split p v g l
  kept-split i p v g l z = go (folded i)
    where
      go : Folded (entry i).node (get_or pn i leaf) → (entry i).node ≡ split p v g l
      go (inl e) = sym e ∙ z
      go (inr t) = absurd (subst (λ (m : Node). T (is_leaf m)) z t)

  child-old : (a c : ℕ) → Child pn a c → Child (tree_nodes tree) a c
  child-old a c k = go (get_or pn a leaf) refl k
    where
      go : (m : Node) → get_or pn a leaf ≡ m → ChildOf m c → Child (tree_nodes tree) a c
      go leaf z k = absurd k
      go (split p v g l) z k = rw (node-is a, kept-split a p v g l z) k

  pn-family : Family pn
  pn-family = record {
    forward = λ i a. forwards i (rw length-pn at a) (get_or pn i leaf) refl;
    one_parent = λ a b c k m. h.family.one_parent a b c (child-old a c k) (child-old b c m);
    two_children = λ a. twins a (get_or pn a leaf) refl;
  }
    where
      forwards : (i : ℕ) → i < count → (m : Node) → get_or pn i leaf ≡ m → Forward (length pn) i (get_or pn i leaf)
      forwards i a leaf z = rw z tt
      forwards i a (split p v g l) z = rw (z, length-pn, ← many)
          (subst (Forward (length (tree_nodes tree)) i) (node-is i ∙ kept-split i p v g l z) (h.family.forward i (omega (arith, many))))

      twins : (a : ℕ) (m : Node) → get_or pn a leaf ≡ m → Twins (get_or pn a leaf)
      twins a leaf z = rw z tt
      twins a (split p v g l) z = rw z (subst Twins (node-is a ∙ kept-split a p v g l z) (h.family.two_children a))

  module _ {bits : Float} {splits : List Bool} (is : PricedAs price tree bits splits) where
    split_is : (i : ℕ) → i < count → get_or splits i false ≡ not (is_leaf (get_or pn i leaf))
    split_is i a = is.splits_are i (omega (arith, h.many))

    pub shows-nodes : ShowsNodes pn front splits
    shows-nodes = record {
      many = long ∙ sym length-pn;
      shown = λ i a. let b : i < count = omega (arith, long) in rw (gt_at, le_at, front-at i b) (go i b (get_or pn i leaf) refl);
      family = pn-family;
    }
      where
        go : (i : ℕ) → i < count → (m : Node) → get_or pn i leaf ≡ m → ShownAs (get_or pn i leaf) (get_or splits i false) (gt_at x.nodes i) (le_at x.nodes i)
        go i a leaf z = rw (split_is i a, z) refl
        go i a (split p v g l) z =
            let r = record_as i a (split p v g l) (kept-split i p v g l z) in
            rw (split_is i a, z) (refl, ap (λ (r : MaNode). r.gt) r, ap (λ (r : MaNode). r.le) r)

    pub walkable : (places : List ℕ) → count ≤ length splits → count ≤ length places → Walkable front splits places
    walkable places a c = record {
      nodes = pn;
      shows = shows-nodes;
      some = omega (arith, h.some, long);
      few = omega (arith, h.few, long);
      splits_there = omega (arith, long);
      places_there = omega (arith, long);
    }

    -- ---- the nodes in their new order
    module _ {order places : List ℕ} (done : Ordered pn order places) where
      abbrev preorder-of : List ℕ
      preorder-of = preorder (length pn) pn 0

      rooted : 0 < length tree
      rooted = omega (arith, h.some, h.many)

      abbrev new : List (Entry singles)
      new = pruned_tree price tree

      -- each that is left has its number in the preorder
      found-all : length order ≡ length preorder-of
      found-all = ap length done.order_is

      pub found-is : length order ≡ length new
      found-is = found-all ∙ sym (length-kept price tree h.family rooted)

      pub fewer : length new ≤ length tree
      fewer = omega (arith, order-short price tree h.family rooted, length-kept price tree h.family rooted)

      at_q : (q : ℕ) → get_or order q 0 ≡ get_or preorder-of q 0
      at_q q = ap (λ (l : List ℕ). get_or l q 0) done.order_is

      old : (q : ℕ) → q < length order → get_or order q 0 < count
      old q a = rw (at_q q) (omega (arith, h.many, old-number price tree h.family rooted q (omega (arith, found-all))))

      pub movable : length splits ≡ count → count ≤ length places → AllMovable x splits order places
      movable each places_there = record {
        few = omega (arith, found-is, fewer, h.many);
        most = rw each h.few;
        room = rw each room;
        old = λ q a. rw each (old q a);
        children = λ i a s. children i (rw each at a) s (get_or pn i leaf) refl;
      }
        where
          children : (i : ℕ) → i < count → get_or splits i false ≡ true → (m : Node) → get_or pn i leaf ≡ m → (gt_at x.nodes i < length places)
              × (le_at x.nodes i < length places)
          children i a s leaf z = absurd (true≢false (sym s ∙ split_is i a ∙ ap (λ (m : Node). not (is_leaf m)) z))
          children i a s (split p v g l) z =
              let r = record_as i a (split p v g l) (kept-split i p v g l z) in
              let f = forward i a (ap (λ (r : MaNode). eqb r.kind 1) r) in
              (omega (arith, f.2), omega (arith, f.3))

      -- entry q of the pruned tree
      entry_new : (q : ℕ) → q < length order → get_or new q no_entry ≡ moved tree pn preorder-of (get_or order q 0)
      entry_new q a = rw (at_q q) (entry_kept price tree h.family rooted q (omega (arith, found-all)))

      -- a kept node's place in the order is its new number
      place : (i c : ℕ) → Memᴰ i preorder-of → Child pn i c → get_or places c 0 ≡ place_of c preorder-of
      place i c m k =
          let p = place_at c preorder-of (closed price tree h.family rooted i c m k) in
          ap (λ (e : ℕ). get_or places e 0) (sym (at_q (place_of c preorder-of) ∙ p.1)) ∙ done.places_are (place_of c preorder-of) (omega (arith, p.0, found-all))

      module _ (q : ℕ) (a : q < length order) where
        abbrev i : ℕ
        i = get_or order q 0

        member : Memᴰ i preorder-of
        member = rw (at_q q) (mem_get_d preorder-of q (omega (arith, found-all)))

        in_count : i < count
        in_count = old q a

        -- the entry that is moved leaves the same record and span
        pub new-entry : SameCells (entry_from x (get_or splits i false) places i) (get_or new q no_entry)
        unfolding moved
        new-entry = rw (entry_new q a, split_is i in_count) (same-cells _ _ (go (get_or pn i leaf) refl) info rows depth)
          where
            info : info_at x i ≡ (entry i).info
            info = ap (λ (r : MaNode). info_is r.info) (node i in_count) ∙ stored_info (entry i).node (entry i).info (entry i).depth

            depth : depth_at x i ≡ (entry i).depth
            depth = ap (λ (r : MaNode). r.depth) (node i in_count) ∙ stored_depth (entry i).node (entry i).info (entry i).depth

            rows : record { first = (get_or x.spans i no_span_record).first; end = (get_or x.spans i no_span_record).end } ≡ (entry i).span
            rows = ap span_is (rows_of i in_count)

            go : (m : Node) → get_or pn i leaf ≡ m → node_from (stored_of (get_or x.nodes i no_record)) (not (is_leaf m)) places ≡ renumbered preorder-of m
            go leaf z = refl
            go (split p v g l) z =
                rw (record_as i in_count (split p v g l) (kept-split i p v g l z), place i g member (rw z (inl refl)), place i l member (rw z (inr refl)))

      pub moved_lists : length splits ≡ count → holding (compacted x splits places order) x ≡ holding (pruned_entries {M = singles} price tree) lent
      moved_lists each =
          let t : List (Entry singles) = entries_from x splits places order in
          let blank : List (Entry singles) = replicate (count - length order) no_entry in
          let many-moved : length t ≡ length order = length-entries x splits places order in
          let all : length (t ++ blank) ≡ length tree = length-append t blank ∙ (let a = length-replicate (count - length order) (no_entry {M = singles}) in omega (arith, found-is, fewer, h.many)) in
          ap (λ (n : ℕ). holding (t ++ replicate (n - length order) no_entry) x) each
          ∙ ap (holding (t ++ blank)) h.lists ∙ held-again (t ++ blank) tree lent all
          ∙ held_same t new lent (many-moved ∙ found-is) blank (λ q a. let b : q < length order = omega arith in rw (entry-at x splits places order q b) (new-entry q b))
          ∙ rw (found-is, h.many)

  -- ---- they can be priced
  pub all_priceable : (splits : List Bool) → count ≤ length splits → AllPriceable front price splits
  all_priceable splits there = record {
    some = omega (arith, h.some, long);
    few = omega (arith, h.few, long);
    splits_there = omega (arith, long);
    numbers = λ i a. let b : i < count = omega (arith, long) in rw (front-at i b, node i b, stored_info (entry i).node (entry i).info (entry i).depth) (h.numbers i b);
    price_number = h.price_number;
    children = λ i a is. let b : i < count = omega (arith, long) in let f = forward i b (rw (kind_at, front-at i b) at is) in rw (gt_at, le_at, front-at i b, long) (f.2, f.3);
  }
