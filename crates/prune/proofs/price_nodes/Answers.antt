-- `prune::price_nodes` meets its contract: the prices are the model's. Assumes nothing.
use Rattle.std.proofs.Common.{arith, sym}
use Rattle.prune.proofs.Bridge.{long, shows-tree, all_priceable}
use Rattle.prune.proofs.Pricing.{priced-all}
use Rattle.prune.proofs.price_nodes.Goals as goal

pub slice_bounds-tree-end : goal.slice_bounds-tree-end
slice_bounds-tree-end c = sym (long c.requires.holds)

pub price_all-requires : goal.price_all-requires
price_all-requires c = let h = c.requires.holds in record { all_priceable = all_priceable h _ (omega arith); count_in_bounds = omega (arith, long h, h.few) }

pub returns : goal.returns
returns c tree lent h = let shows = shows-tree h in
    priced-all c.args.price tree _ _ _ shows.many (omega (arith, long h, h.some)) (c.price_all.ensures tree shows)
