-- The contexts that the leaves are given along the breadth-first order, node by node. Assumes nothing.
use mathlib.Core.Path.{◌≡◌, refl, sym, ap, ◌∙◌}
use Prim.Native.Nat.{ℕ, ◌+◌, ◌≤◌, ◌<◌}
use native.Mathlib.Nat.{zero-add}
use native.Mathlib.Numerals.{add-one}
use native.Mathlib.Omega.{arith}
use mathlib.Core.Bool.{Bool, true, false, cond}
use mathlib.Core.List.{List, [], ◌∷◌}
use lib.ListN.{length, get_or, drop, replicate, length-set, length-replicate}
use lib.Seq.{drop-cons, drop-length}
use lib.Dec.{eqb}
use Rattle.model.specs.Lists.{count_if}
use Rattle.model.specs.Tree.{Node, leaf, is_leaf, nodes_of}
use Rattle.model.specs.Learn.{leaf_count}
use Rattle.model.specs.Contexts.{no_context, contexts_of, breadth_order}
use Rattle.model.proofs.Sound.{Rooted}
use Rattle.model.proofs.Tally.{tree-count}
use Rattle.model.proofs.BreadthFirst.{leaf_at, numbered_along, along_end, along_split, along_leaf, contexts_along, order-leaves}
use Rattle.layout.specs.Records.{no_record, node_is}
use Rattle.layout.specs.declared.MaNode.{MaNode}
use Rattle.tree.specs.Trees.{records_in, IsSound}
use Rattle.tree.proofs.Entries.{nodes-length, node_at_lem}
use Rattle.tree.proofs.Soundness.{all_sound, some_nodes}
use Rattle.breadth.proofs.Walking.{order_inside}
use Rattle.contexts.specs.Numbering.{Numbering, numbering, given, Giveable}

-- the first k nodes of the order have their contexts, and what is left of it gives the rest
pub record Numbered (t : List MaNode) (order : List ℕ) (k next : ℕ) (contexts : List ℕ) : Type 0 where
  pub there : length contexts ≡ length t
  pub ordered : order ≡ breadth_order (nodes_of (records_in t))
  pub leaves : next + count_if (leaf_at (nodes_of (records_in t))) (drop k order) ≡ leaf_count (nodes_of (records_in t))
  pub same : contexts_of (nodes_of (records_in t)) ≡ numbered_along (nodes_of (records_in t)) (drop k order) next contexts

module _ (t : List MaNode) (is : IsSound t) (order : List ℕ) where
  abbrev nodes : List Node
  nodes = nodes_of (records_in t)

  rooted : Rooted nodes
  rooted = (all_sound t is).rooted

  many : length nodes ≡ length t
  many = nodes-length t

  some : 0 < length nodes
  some = rw many (some_nodes t is).0

  pub numbered_first : (contexts : List ℕ) → order ≡ breadth_order nodes → contexts ≡ replicate (length t) no_context → Numbered t order 0 0 contexts
  numbered_first contexts ordered none = record {
    there = rw none (length-replicate (length t) no_context);
    ordered = ordered;
    leaves = zero-add _ ∙ ap (count_if (leaf_at nodes)) ordered ∙ order-leaves nodes rooted some;
    same = contexts_along nodes ∙ rw (none, ← ordered, many);
  }

  module _ (k next : ℕ) (contexts : List ℕ) (n : Numbered t order k next contexts) (more : k < length order) where
    abbrev i : ℕ
    i = get_or order k 0

    -- node i is next
    left : drop k order ≡ i ∷ drop (k + 1) order
    left = drop-cons order k 0 more ∙ rw (add-one k)

    pub next_inside : i < length t
    next_inside = order_inside t is order n.ordered k more

    next_few : next ≤ length t
    next_few = omega (arith, n.leaves, many, tree-count nodes rooted some, (some_nodes t is).0)

    pub giveable : Giveable i next contexts
    giveable = record { place = omega (arith, next_inside, n.there); next_fits = omega (arith, next_few, (some_nodes t is).1) }

    -- what is left, for node i as the record has it
    abbrev m : Node
    m = node_is (get_or t i no_record)

    node : get_or nodes i leaf ≡ m
    node = node_at_lem t i next_inside

    leaves_left : next + (cond (is_leaf m) 1 0 + count_if (leaf_at nodes) (drop (k + 1) order)) ≡ leaf_count nodes
    leaves_left = rw (left, node) at n.leaves

    same_left : contexts_of nodes ≡ numbered_along nodes (i ∷ drop (k + 1) order) next contexts
    same_left = rw left at n.same

    pub numbered_on : (v : Numbering) → v ≡ given m i (numbering next contexts) → Numbered t order (k + 1) v.next v.contexts
    numbered_on v e = go (eqb (get_or t i no_record).kind 1) refl
      where
        go : (b : Bool) → eqb (get_or t i no_record).kind 1 ≡ b → Numbered t order (k + 1) v.next v.contexts
        go true is-split = rw (rw is-split at e) (record {
          there = n.there;
          ordered = n.ordered;
          leaves = let l = rw is-split at leaves_left in omega (arith, l);
          same = same_left ∙ along_split nodes i (drop (k + 1) order) next contexts (rw is-split at node);
        })
        go false leafy = rw (rw leafy at e) (record {
          there = simp length-set n.there;
          ordered = n.ordered;
          leaves = let l = rw leafy at leaves_left in omega (arith, l);
          same = same_left ∙ along_leaf nodes i (drop (k + 1) order) next contexts (rw leafy at node) ∙ rw (add-one next);
        })

  -- no node is left
  pub numbered_end : (k next : ℕ) (contexts : List ℕ) → Numbered t order k next contexts → k ≡ length order → (next ≡ leaf_count nodes) × (contexts ≡ contexts_of nodes)
  numbered_end k next contexts n e =
      let none : drop k order ≡ [] = rw e (drop-length order) in
      let all = rw none at n.leaves in
      (omega (arith, all), sym (rw none at n.same ∙ along_end nodes next contexts))
