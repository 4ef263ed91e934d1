-- `prune::prune_tree` meets its contract: the passes are the model's pruning. Assumes nothing.
use Rattle.std.proofs.Common.{◌≡◌, List, ℕ, ◌≤◌, Bool, false, length, take, replicate, arith, ◌∙◌, sym, ap, subst}
use lib.ListN.{length-replicate, length-take}
use lib.Seq.{length-take-le}
use Rattle.model.specs.Settings.{max_nodes}
use Rattle.prune.proofs.Bridge.{found-is, movable, moved_lists, long, shows-nodes, walkable}
use Rattle.model.specs.Single.{singles}
use Rattle.model.specs.Grow.{Entry}
use Rattle.model.specs.Prune.{pruned_nodes}
use Rattle.layout.specs.Tree.{NodeLists, holding}
use Rattle.compact.specs.Moves.{AllMovable, compacted}
use Rattle.layout.specs.Lent.{lists_in}
use Rattle.preorder.specs.Order.{Ordered}
use Rattle.prune.specs.Prices.{PricedAs}
use Rattle.prune.specs.Held.{HoldsTree}
use Rattle.prune.proofs.prune_tree.Goals as goal
use Rattle.prune.proofs.prune_tree.Goals.{After-price_nodes-bits, After-order_nodes}

-- there is a flag for each node
flags : (count : ℕ) → count ≤ max_nodes → length (take count (replicate {A = Bool} max_nodes false)) ≡ count
flags count few = length-take-le count (replicate {A = Bool} max_nodes false) (omega (arith, length-replicate {A = Bool} max_nodes false))

-- the nodes' prices, and the flags
priced : (c : After-price_nodes-bits) (tree : List (Entry singles)) (lent : NodeLists) → HoldsTree (lists_in c.args.at.now) c.args.count c.args.price tree lent
    → PricedAs c.args.price tree c.price_nodes-bits.result c.price_nodes-bits.new.splits
priced c tree lent h = (rw (flags c.args.count h.few) at c.price_nodes-bits.ensures) tree lent h

each : (c : After-price_nodes-bits) → length c.price_nodes-bits.new.splits ≡ c.args.count
each c = c.price_nodes-bits.auto.splits ∙ flags c.args.count c.requires.holds.few

pub order_nodes-requires-clause-there : goal.order_nodes-requires-clause-there
order_nodes-requires-clause-there c = let here = (goal.at.order_nodes-requires-clause-there c).After-price_nodes-bits in
    rw (each here) (omega (arith, long c.requires.holds, length-take c.args.count c.args.at.now.nodes.now))

pub order_nodes-requires-clause-walkable : goal.order_nodes-requires-clause-walkable
order_nodes-requires-clause-walkable c = let here = (goal.at.order_nodes-requires-clause-walkable c).After-price_nodes-bits in
    rw (each here) (walkable c.requires.holds (priced here c.requires.tree c.requires.lent c.requires.holds) _ (omega (arith, each here)) (omega (arith, c.requires.holds.few)))

-- the order of the nodes that are left
ordered : (c : After-order_nodes) (tree : List (Entry singles)) (lent : NodeLists) (h : HoldsTree (lists_in c.args.at.now) c.args.count c.args.price tree lent)
    → Ordered (pruned_nodes c.args.price tree) c.order_nodes.new.order.items c.order_nodes.new.places
ordered c tree lent h = let here = (goal.at.After-order_nodes c).After-price_nodes-bits in
    (rw (each here) at c.order_nodes.ensures) _ (shows-nodes h (priced here tree lent h))

pub move_nodes-requires : goal.move_nodes-requires
move_nodes-requires c = let here = (goal.at.move_nodes-requires c).After-order_nodes in
    let holds = c.requires.holds in
    subst (λ (l : List ℕ). AllMovable (lists_in c.args.at.now) c.price_nodes-bits.new.splits l c.order_nodes.new.places) (sym c.deref.ensures.0)
    (movable holds (priced (goal.at.move_nodes-requires c).After-price_nodes-bits c.requires.tree c.requires.lent holds) (ordered here c.requires.tree c.requires.lent holds)
    (each (goal.at.move_nodes-requires c).After-price_nodes-bits) (omega (arith, holds.few, c.order_nodes.auto.places)))

pub returns-clause-lists : goal.returns-clause-lists
returns-clause-lists c tree lent h = let here = (goal.at.returns-clause-lists c).After-order_nodes in
    let are = priced (goal.at.returns-clause-lists c).After-price_nodes-bits tree lent h in
    let done = ordered here tree lent h in
    record {
      lists = c.move_nodes.ensures.lists
          ∙ ap (λ (l : List ℕ). holding (compacted (lists_in c.args.at.now) c.price_nodes-bits.new.splits c.order_nodes.new.places l) (lists_in c.args.at.now)) c.deref.ensures.0
          ∙ moved_lists h are done (each (goal.at.returns-clause-lists c).After-price_nodes-bits);
      nodes = c.len.ensures.value ∙ found-is h are done;
      bits = are.bits_are;
    }
