-- `prune::price_all` meets its contract: the nodes from i on are priced. Assumes nothing.
use Rattle.std.proofs.Common.{arith, ◌-◌, ◌<◌, length}
use Rattle.prune.proofs.Pricing.{priced-more}
use Rattle.prune.proofs.price_all.Goals as goal

pub loop-i-preserved : goal.loop-i-preserved
loop-i-preserved c = let pre = c.requires.all_priceable in
    let l = c.loop-i in
    let inside : l.i - 1 < length c.args.tree.now = omega (arith, l.auto.i, c.loop-i-test.true) in
    let split = c.price_node-split in
    λ tree shows k a b. priced-more c.args.price tree c.args.tree.now shows pre.children l.prices l.splits (l.i - 1) inside
    (λ j p q. l.invariant tree shows j (omega arith) q) split.result split.ensures
    (rw c.price_leaf.ensures at c.unwrap_or.ensures) c.is_some.ensures
    (omega (arith, l.auto.prices, c.requires.count_in_bounds)) (omega (arith, l.auto.splits, pre.splits_there)) k a b
