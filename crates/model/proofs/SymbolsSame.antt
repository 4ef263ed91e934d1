-- The tree renumbered breadth first is sound; lookups end at the same leaves, with the same predictors, offsets and contexts. Assumes nothing.
use mathlib.Core.Path.{◌≡◌, refl, sym, ap, ◌∙◌}
use Prim.Native.Nat.{ℕ, ◌<◌}
use native.Mathlib.Omega.{arith}
use mathlib.Core.List.Memᴰ
use mathlib.Core.List.{List, [], ◌∷◌, map, map-map, Memᴰ}
use mathlib.Core.Option.{none}
use lib.ListN.{length, get_or, length-map, get_or-map, replicate, length-replicate, get_or-replicate}
use lib.IntN.{ℤ}
use Rattle.model.specs.Lists.{range}
use Rattle.model.specs.Meter.{Meter}
use Rattle.model.specs.Tree.{Node, split, leaf, Info, Record, blank_record, nodes_of, reach, leaf_reached, fault_of}
use Rattle.model.specs.Prune.{place_of, renumbered}
use Rattle.model.specs.Learn.{leaf_count}
use Rattle.model.specs.Contexts.{no_context, contexts_from, contexts_of, breadth_order}
use Rattle.model.specs.Symbols.{symbols_of, rowless_record, renumbered_record, renumbered_tree, breadth_tree}
use Rattle.model.specs.Family.{Child}
use Rattle.model.proofs.Places.{get_d_any}
use Rattle.model.proofs.Family.{child-forward}
use Rattle.model.proofs.Preorder.{place_at}
use Rattle.model.proofs.Sound.{Rooted, same_length, node_at, has_root, sound}
use Rattle.model.proofs.Tally.{tree-count}
use Rattle.model.proofs.Renumbered as R
use Rattle.model.proofs.BreadthFirst.{begun, order-length, order-inside, order-visited, place-ahead}
use Rattle.model.proofs.SymbolsRead.{ReadBack, read-back}
use Rattle.model.proofs.SymbolsWritten.{written-is-read}

module _ {M : Meter} (rs : List (Record M)) (faultless : fault_of rs ≡ none) where
  abbrev nodes : List Node
  nodes = nodes_of rs

  abbrev order : List ℕ
  order = breadth_order nodes

  tree : Rooted nodes
  tree = (sound rs faultless).rooted

  root : 0 < length nodes
  root = has_root rs faultless

  -- ---- the order holds each node, the root first
  pub in_order : (i : ℕ) → i < length nodes → Memᴰ i order
  in_order i h = order-visited nodes tree root i h

  closed : (x c : ℕ) → Memᴰ x order → Child nodes x c → Memᴰ c order
  closed x c m h = in_order c (child-forward nodes tree.family.forward x c h).1

  pub root-first : place_of 0 order ≡ 0
  root-first = place-ahead nodes tree root [] (0 ∷ []) (begun nodes) 0 (omega arith)

  -- ---- the tree's nodes
  abbrev new : List Node
  new = R.new nodes order closed

  node_of : (m : Node) (i : Info M) (depth : ℕ) → (rowless_record m i depth).node ≡ m
  node_of leaf i depth = refl
  node_of (split p v g l) i depth = refl

  new_is : nodes_of (breadth_tree rs) ≡ new
  unfolding breadth_tree renumbered_tree
  new_is = simp (map-map, node_of, ← node_at rs)

  pub length-stays : length (breadth_tree rs) ≡ length rs
  unfolding breadth_tree renumbered_tree
  length-stays = length-map order _ ∙ order-length nodes tree root ∙ same_length rs

  long : length new ≡ length nodes
  long = ap length (sym new_is) ∙ same_length (breadth_tree rs) ∙ length-stays ∙ sym (same_length rs)

  -- ---- the new numbers
  pub place-inside : (i : ℕ) → i < length nodes → place_of i order < length nodes
  place-inside i h = rw (order-length nodes tree root) at (place_at i order (in_order i h)).0

  pub place-apart : (i k : ℕ) → i < length nodes → k < length nodes → place_of i order ≡ place_of k order → i ≡ k
  place-apart i k h j = R.same_place nodes order closed i k (in_order i h) (in_order k j)

  -- the record under the new number: a split's children have theirs, a leaf's predictor and offset stay, and the depth
  pub record-moved : (i : ℕ) → i < length nodes → (m : Node) → (get_or rs i blank_record).node ≡ m
      → get_or (breadth_tree rs) (place_of i order) blank_record ≡ rowless_record (renumbered order m) (get_or rs i blank_record).info (get_or rs i blank_record).depth
  unfolding breadth_tree renumbered_tree
  record-moved i h m e =
      let made : ℕ → Record M = λ (i : ℕ). renumbered_record order (get_or rs i blank_record) in
      let (low, there) = place_at i order (in_order i h) in
      get_d_any (map made order) (place_of i order) blank_record (made 0) (rw (length-map order made) low) ∙ get_or-map made order (place_of i order) 0 ∙ ap made there ∙ rw e

  -- ---- a lookup ends at the same leaf, under its new number
  pub same-ends : (ps : List ℤ) → leaf_reached (nodes_of (breadth_tree rs)) ps ≡ place_of (leaf_reached nodes ps) order
  unfolding leaf_reached
  same-ends ps = rw (new_is, long) (ap (λ (c : ℕ). reach (length nodes) new ps c) (sym root-first) ∙ R.reach-new nodes order closed ps (length nodes) 0 (in_order 0 root))

  -- ---- the same contexts
  pub contexts-stay : (i : ℕ) → i < length nodes → get_or (contexts_of (nodes_of (breadth_tree rs))) (place_of i order) 0 ≡ get_or (contexts_of nodes) i 0
  unfolding contexts_of
  contexts-stay i h = rw (new_is, long) (rw root-first at ((all none_yet).same i (in_order i h)))
    where
      none_yet : R.Alike nodes order closed (replicate (length nodes) no_context) (replicate (length nodes) no_context)
      none_yet = record {
        old_long = length-replicate (length nodes) no_context;
        fresh_long = length-replicate (length nodes) no_context ∙ sym (order-length nodes tree root);
        same = λ k m. get_or-replicate (length nodes) (place_of k order) no_context 0 (rw (order-length nodes tree root) at (place_at k order m).0)
            ∙ sym (get_or-replicate (length nodes) k no_context 0 (order-inside nodes tree root k m));
      }

      all : {old fresh : List ℕ} → R.Alike nodes order closed old fresh
          → R.Alike nodes order closed (contexts_from (length nodes) nodes (0 ∷ []) 0 old) (contexts_from (length nodes) new (place_of 0 order ∷ []) 0 fresh)
      all {old} {fresh} a = R.same-contexts nodes order closed (order-inside nodes tree root) (length nodes) (0 ∷ []) (λ k m. rw (Memᴰ.eq_of_singleton m) (in_order 0 root)) 0 old fresh a

  -- ---- the renumbered tree is sound, and numbered breadth first
  back : ReadBack (symbols_of rs) (breadth_tree rs)
  back = read-back (symbols_of rs) (breadth_tree rs) (written-is-read rs faultless)

  pub renumbered-sound : fault_of (breadth_tree rs) ≡ none
  renumbered-sound = back.is_sound

  pub renumbered-breadth : breadth_order (nodes_of (breadth_tree rs)) ≡ range 0 (length rs)
  renumbered-breadth = rw (← length-stays) back.in_breadth

  -- it has as many leaves
  pub leaves-stay : leaf_count (nodes_of (breadth_tree rs)) ≡ leaf_count nodes
  leaves-stay =
      let old = tree-count nodes tree root in
      let now = tree-count (nodes_of (breadth_tree rs)) (sound (breadth_tree rs) renumbered-sound).rooted (has_root (breadth_tree rs) renumbered-sound) in
      omega (arith, same_length (breadth_tree rs), same_length rs, length-stays)
