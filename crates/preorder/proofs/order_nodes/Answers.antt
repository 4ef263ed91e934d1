-- `preorder::order_nodes` meets its contract: what was found and what waits on the stack are the preorder. Assumes nothing.
use mathlib.Core.Path.{refl, sym, ap, ◌∙◌, subst}
use mathlib.Core.List.{List, [], ◌∷◌, ◌++◌}
use Prim.Native.Nat.{◌≤◌, ◌<◌}
use native.Mathlib.Omega.{arith}
use lib.ListN.{length, length-set, length-append}
use Rattle.layout.specs.declared.MaNode.{MaNode}
use Rattle.model.specs.Tree.{Node}
use Rattle.preorder.specs.Order.{ShowsNodes}
use Rattle.preorder.proofs.Walking.{Walked, walk_first, walk_turn, walk_safe, walk-room, walk-done, none-waits}
use mathlib.Core.Bool.{true≢false}
use Rattle.preorder.proofs.order_nodes.Goals as goal
use Rattle.preorder.proofs.order_nodes.Goals.{After-len}

-- the tree
abbrev tree : After-len → List MaNode
tree c = c.args.tree.now

-- where the walk stood before this node was taken
before : (c : After-len) (nodes : List Node) → ShowsNodes nodes (tree c) c.args.splits.now
    → Walked nodes c.loop-node.order.items c.loop-node.places (c.pop.new.self.items ++ c.in-Some.node ∷ [])
before c nodes shows = subst (Walked nodes c.loop-node.order.items c.loop-node.places) c.in-Some.ensures.items (c.loop-node.invariant.1 nodes shows)

there : (c : After-len) → length (tree c) ≤ length c.loop-node.places
there c = omega (arith, c.requires.places_there, c.loop-node.invariant.0)

safe : (c : After-len) → (c.in-Some.node < length (tree c)) × (length c.loop-node.order.items < length (tree c))
safe c = walk_safe c.requires.shows _ _ _ _ (before c c.requires.nodes c.requires.shows) (there c)

pub loop-node-init : goal.loop-node-init
loop-node-init c = (
  refl,
  λ nodes shows. rw (c.push.ensures.items, c.new-stack.ensures, c.clear.ensures)
      (walk_first nodes shows.family (omega (arith, c.requires.some, shows.many)) c.args.places.now),
)

pub bounds-places-i : goal.bounds-places-i
bounds-places-i c = let s = safe (goal.at.bounds-places-i c).After-len in omega (arith, s.0, there (goal.at.bounds-places-i c).After-len)

pub push-requires-in-Some : goal.push-requires-in-Some
push-requires-in-Some c = let s = safe (goal.at.push-requires-in-Some c).After-len in (omega arith, omega (arith, s.1, c.requires.few))

pub bounds-tree-i : goal.bounds-tree-i
bounds-tree-i c = (safe (goal.at.bounds-tree-i c).After-len).0

pub bounds-splits-i : goal.bounds-splits-i
bounds-splits-i c = omega (arith, (safe (goal.at.bounds-splits-i c).After-len).0, c.requires.splits_there)

pub push_children-requires : goal.push_children-requires
push_children-requires c is = let here = (goal.at.push_children-requires c).After-len in
    omega (arith, walk-room c.requires.shows _ _ _ _ (before here c.requires.nodes c.requires.shows) (there here) is, c.requires.few)

pub loop-node-smaller : goal.loop-node-smaller
loop-node-smaller c = let s = safe (goal.at.loop-node-smaller c).After-len in omega (arith, s.1, ap length c.push-in-Some.ensures.items, length-append c.loop-node.order.items (c.in-Some.node ∷ []))

pub loop-node-preserved : goal.loop-node-preserved
loop-node-preserved c = let here = (goal.at.loop-node-preserved c).After-len in (
  length-set c.loop-node.places c.in-Some.node c.len.result ∙ c.loop-node.invariant.0,
  λ nodes shows. rw (c.push-in-Some.ensures.items, c.push_children.ensures, c.len.ensures.value) (walk_turn shows _ _ _ _ (before here nodes shows) (there here)),
)

pub returns : goal.returns
returns c nodes shows = walk-done (c.loop-node.invariant.1 nodes shows) (none-waits c.loop-node.stack.items (λ h. absurd (true≢false (sym (c.in_default.ensures.variant.1 h)))))
