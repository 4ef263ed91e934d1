-- What the queue holds while a breadth-first walk of a sound tree goes on: the nodes visited, then those that wait; and the order at its end. Assumes nothing.
use mathlib.Core.Path.{◌≡◌, refl, sym, ap, ◌∙◌, subst}
use Prim.Native.Nat.{ℕ, suc, ◌+◌, ◌≤◌, ◌<◌}
use native.Mathlib.Numerals.{add-one}
use native.Mathlib.Omega.{arith}
use mathlib.Core.Bool.{Bool, true, false}
use mathlib.Core.List.Memᴰ
use mathlib.Core.List.{List, [], ◌∷◌, ◌++◌, append-nil, Memᴰ}
use lib.ListN.{length, get_or, set, take, length-set, length-append}
use lib.Seq.{slice, slice-cons, slice_empty, take_all, take-suc, take-suc-set, length-take-le, get_or-set_same, get_or-set_other}
use lib.Dec.{eqb}
use Rattle.model.specs.Tree.{Node, nodes_of}
use Rattle.model.specs.Contexts.{breadth_order}
use Rattle.model.proofs.Sound.{Rooted}
use Rattle.model.proofs.Slices.{slice-join, slice_ext}
use Rattle.model.proofs.Preorder.{mem_get_d}
use Rattle.model.proofs.BreadthFirst.{children_of, Breadth, begun, order-done, inside, few, visit, all-visited, order-inside}
use Rattle.layout.specs.Records.{no_record, node_is}
use Rattle.layout.specs.declared.MaNode.{MaNode}
use Rattle.tree.specs.Trees.{records_in, IsSound}
use Rattle.tree.proofs.Entries.{nodes-length, node_at_lem}
use Rattle.tree.proofs.Soundness.{all_sound, some_nodes}
use Rattle.breadth.specs.Queue.{queued, end_after}

-- ---- two entries at the end of the queue
module _ (q : List ℕ) (end g l : ℕ) (there : end + 2 ≤ length q) where
  abbrev pushed : List ℕ
  pushed = set (set q end g) (end + 1) l

  length-pushed : length pushed ≡ length q
  length-pushed = simp length-set

  pushed-old : (k : ℕ) → k < end → get_or pushed k 0 ≡ get_or q k 0
  pushed-old k h = get_or-set_other (set q end g) (end + 1) k l 0 (λ (e : k ≡ end + 1). omega arith) ∙ get_or-set_other q end k g 0 (λ (e : k ≡ end). omega arith)

  pushed-first : get_or pushed end 0 ≡ g
  pushed-first = get_or-set_other (set q end g) (end + 1) end l 0 (λ (e : end ≡ end + 1). omega arith) ∙ get_or-set_same q end g 0 (omega arith)

  pushed-second : get_or pushed (suc end) 0 ≡ l
  pushed-second = rw (← add-one end) (get_or-set_same (set q end g) (end + 1) l 0 (simp length-set (omega arith)))

  slice-pushed : (head : ℕ) → head ≤ end → slice head (end + 2) pushed ≡ slice head end q ++ (g ∷ l ∷ [])
  slice-pushed head h =
      let all : end + 2 ≤ length pushed = rw length-pushed there in
      let past : suc (suc end) ≡ end + 2 = omega arith in
      let old = slice_ext 0 head end q pushed (omega arith) length-pushed (λ k low high. pushed-old k high) in
      let new : slice end (end + 2) pushed ≡ g ∷ l ∷ [] =
      slice-cons end (end + 2) pushed 0 (omega arith) all
      ∙ rw (pushed-first, slice-cons (suc end) (end + 2) pushed 0 (omega arith) all, pushed-second, past, slice_empty (end + 2) pushed) in
      sym (slice-join head end (end + 2) pushed h (omega arith) all) ∙ ap (λ (w : List ℕ). w ++ slice end (end + 2) pushed) old ∙ ap (λ (w : List ℕ). slice head end q ++ w) new

  -- what was visited stays
  take-pushed : (head : ℕ) → head ≤ end → take head pushed ≡ take head q
  take-pushed head h = slice_ext 0 0 head q pushed (omega arith) length-pushed (λ k low high. pushed-old k (omega arith))

-- the walk has visited the places before `head`, and those up to `end` wait
pub record Walked (t : List MaNode) (head end : ℕ) (order : List ℕ) : Type 0 where
  pub there : length order ≡ length t
  pub behind : head ≤ end
  pub within : end ≤ length t
  pub walk : Breadth (nodes_of (records_in t)) (take head order) (slice head end order)

module _ (t : List MaNode) (is : IsSound t) where
  abbrev nodes : List Node
  nodes = nodes_of (records_in t)

  rooted : Rooted nodes
  rooted = (all_sound t is).rooted

  long : length nodes ≡ length t
  long = nodes-length t

  some : 0 < length nodes
  some = rw long (some_nodes t is).0

  pub walked_first : (order : List ℕ) → length order ≡ length t → Walked t 0 1 (set order 0 0)
  walked_first order e =
      let pos = (some_nodes t is).0 in
      record { there = simp length-set e; behind = omega arith; within = pos; walk = rw (take-suc-set order 0 0 (omega arith)) (begun nodes) }

  module _ (head end : ℕ) (order : List ℕ) (w : Walked t head end order) (more : head < end) where
    abbrev i : ℕ
    i = get_or order head 0

    abbrev m : MaNode
    m = get_or t i no_record

    waiting : slice head end order ≡ i ∷ slice (head + 1) end order
    waiting = slice-cons head end order 0 more (omega (arith, w.there, w.within)) ∙ rw (add-one head)

    one_more : take (head + 1) order ≡ take head order ++ (i ∷ [])
    one_more = rw (add-one head) (take-suc order head 0 (omega (arith, w.there, w.within)))

    -- the walk before and after the visit of node i
    next : Breadth nodes (take head order) (i ∷ slice (head + 1) end order)
    next = rw waiting at w.walk

    pub visited_inside : i < length t
    visited_inside = rw long at (inside nodes rooted some (take head order) (i ∷ slice (head + 1) end order) next i (Memᴰ.append_right (take head order) (Memᴰ.head refl)))

    after : Breadth nodes (take (head + 1) order) (slice (head + 1) end order ++ children_of (node_is m))
    after = rw (one_more, ← node_at_lem t i visited_inside) (visit nodes rooted some (take head order) i (slice (head + 1) end order) next)

    -- the children of a split find room
    two_places : eqb m.kind 1 ≡ true → end + 2 ≤ length t
    two_places k =
        let fits = few nodes rooted some (take (head + 1) order) (slice (head + 1) end order ++ (m.gt ∷ m.le ∷ [])) (rw k at after) in
        omega (
          arith,
          fits,
          w.there,
          w.within,
          long,
          length-take-le (head + 1) order (omega (arith, w.there, w.within)),
          length-append (slice (head + 1) end order) (m.gt ∷ m.le ∷ []),
          waits,
        )
      where
        waits : length (slice (head + 1) end order) + (head + 1) ≡ end
        waits =
            let join = slice-join 0 (head + 1) end order (omega arith) (omega arith) (omega (arith, w.there, w.within)) in
            omega (
              arith,
              ap length join,
              length-append (take (head + 1) order) (slice (head + 1) end order),
              length-take-le (head + 1) order (omega (arith, w.there, w.within)),
              length-take-le end order (omega (arith, w.there, w.within)),
            )

    pub room_behind : eqb m.kind 1 ≡ true → end + 2 ≤ length order
    room_behind k = omega (arith, two_places k, w.there)

    pub walked_on : Walked t (head + 1) (end_after (eqb m.kind 1) end) (queued (eqb m.kind 1) m.gt m.le end order)
    walked_on = go (eqb m.kind 1) refl
      where
        go : (b : Bool) → eqb m.kind 1 ≡ b → Walked t (head + 1) (end_after b end) (queued b m.gt m.le end order)
        go true k =
            let room : end + 2 ≤ length order = room_behind k in
            record {
              there = simp length-set w.there;
              behind = omega arith;
              within = two_places k;
              walk = rw (take-pushed order end m.gt m.le room (head + 1) (omega arith), slice-pushed order end m.gt m.le room (head + 1) (omega arith)) (rw k at after);
            }
        go false k = record {
          there = w.there;
          behind = omega arith;
          within = w.within;
          walk = rw (k, append-nil (slice (head + 1) end order)) at after;
        }

  -- no node is left
  pub walked_end : (head end : ℕ) (order : List ℕ) → Walked t head end order → end ≤ head → order ≡ breadth_order nodes
  walked_end head end order w empty =
      let e : end ≡ head = omega (arith, w.behind) in
      let done : Breadth nodes (take head order) [] = rw (e, slice_empty head order) at w.walk in
      let all = all-visited nodes rooted some (take head order) done in
      let whole : length order ≤ head = omega (arith, all, long, w.there, w.within, length-take-le head order (omega (arith, w.there, w.within))) in
      sym (take_all head order whole) ∙ order-done nodes (take head order) done

  -- each place of the order holds a node's number
  pub order_inside : (order : List ℕ) → order ≡ breadth_order nodes → (k : ℕ) → k < length order → get_or order k 0 < length t
  order_inside order e k h =
      let i = get_or order k 0 in
      rw long at (order-inside nodes rooted some i (subst (λ (l : List ℕ). Memᴰ i l) e (mem_get_d order k h)))
