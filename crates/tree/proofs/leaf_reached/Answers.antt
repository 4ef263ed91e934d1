-- `tree::leaf_reached` meets its contract. Assumes nothing.
use Rattle.std.proofs.Common.{arith, ◌∙◌, sym}
use Rattle.tree.proofs.Ways.{followed_first, followed_on, followed_end}
use Rattle.tree.proofs.leaf_reached.Goals as goal

pub loop-node-init : goal.loop-node-init
loop-node-init c = followed_first c.args.tree.now c.args.props.now c.requires.sound

pub towards-node-requires : goal.towards-node-requires
towards-node-requires c =
    let next = followed_on c.args.tree.now c.args.props.now c.requires.sound c.loop-node.node.0 c.loop-node.invariant (sym c.is_split.ensures ∙ c.loop-node-test.true) in
    omega (arith, next.0, c.requires.one_row)

pub loop-node-smaller : goal.loop-node-smaller
loop-node-smaller c =
    let next = followed_on c.args.tree.now c.args.props.now c.requires.sound c.loop-node.node.0 c.loop-node.invariant (sym c.is_split.ensures ∙ c.loop-node-test.true) in
    rw c.towards-node.ensures (omega (arith, next.1, next.2.inside))

pub loop-node-preserved : goal.loop-node-preserved
loop-node-preserved c =
    let next = followed_on c.args.tree.now c.args.props.now c.requires.sound c.loop-node.node.0 c.loop-node.invariant (sym c.is_split.ensures ∙ c.loop-node-test.true) in
    rw c.towards-node.ensures next.2

pub returns : goal.returns
returns c = followed_end c.args.tree.now c.args.props.now c.loop-node.node.0 c.loop-node.invariant (sym c.is_split.ensures ∙ c.loop-node-test.false)
