-- `tree::pass_nodes` meets its contract. Assumes nothing.
use Rattle.std.proofs.Common.{◌≡◌, ◌<◌, length, arith, subst, ℕ}
use Rattle.tree.proofs.Passing.{Walked, walked_first, walked_on, walked_all}
use Rattle.tree.proofs.pass_nodes.Goals as goal

pub loop-i-init : goal.loop-i-init
loop-i-init c = rw c.requires.zeros (walked_first c.args.tree.now c.requires.few.0)

pub pass_node-requires : goal.pass_node-requires
pass_node-requires c = let w = c.loop-i.invariant in
    let place : c.loop-i.i < length c.loop-i.due = omega (arith, w.places) in
    (place, omega (arith, w.low c.loop-i.i place))

pub loop-i-preserved : goal.loop-i-preserved
loop-i-preserved c = let l = c.loop-i in
    walked_on c.args.tree.now l.i l.due c.pass_node.new.due (omega arith) c.pass_node.auto.due (c.pass_node.ensures.depth c.if-not-pass_node.false) (c.pass_node.ensures.passed c.if-not-pass_node.false) l.invariant

pub returns : goal.returns
returns c e =
    let all : c.loop-i.i ≡ length c.args.tree.now = omega arith in
    walked_all c.args.tree.now c.loop-i.due c.requires.few.0 c.requires.few.1 (subst (λ (n : ℕ). Walked c.args.tree.now n c.loop-i.due) all c.loop-i.invariant)
