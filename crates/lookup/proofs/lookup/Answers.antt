-- `lookup::lookup` meets its contract: each step leads on, or to the lookup's refusal. Assumes nothing.
use Rattle.std.proofs.Common.{rules, ◌≡◌, sym, ◌∙◌, subst}
use Rattle.std.specs.Prelude.{Err}
use Rattle.lookup.proofs.Looking.{leads, begun-leads, followed-leads, ended-answers}
use Rattle.lookup.proofs.lookup.Goals as goal

pub loop-node-init : goal.loop-node-init
loop-node-init c = let a = c.args in
    let first = subst (leads a.nodes.now a.count a.props.now) (sym c.begin.ensures) (begun-leads a.nodes.now a.count a.props.now) in
    subst (leads a.nodes.now a.count a.props.now) c.in_ok-node.was first

pub returns-in_err-node : goal.returns-in_err-node
returns-in_err-node c = let a = c.args in
    let first = subst (leads a.nodes.now a.count a.props.now) (sym c.begin.ensures) (begun-leads a.nodes.now a.count a.props.now) in
    let told : c.from_residual.result ≡ Err c.in_err-node.field-0.0 = search rules in
    rw told (subst (leads a.nodes.now a.count a.props.now) c.in_err-node.was first)

pub loop-node-preserved : goal.loop-node-preserved
loop-node-preserved c = let a = c.args in
    let here = c.loop-node.invariant in
    let next = subst (leads a.nodes.now a.count a.props.now) (sym c.follow.ensures) (followed-leads a.nodes.now a.count a.props.now c.loop-node.node.0 here.0 here.1 (sym c.is_split.ensures ∙ c.loop-node-test.true)) in
    subst (leads a.nodes.now a.count a.props.now) c.in_ok-node-2.was next

pub returns-in_err-node-2 : goal.returns-in_err-node-2
returns-in_err-node-2 c = let a = c.args in
    let here = c.loop-node.invariant in
    let next = subst (leads a.nodes.now a.count a.props.now) (sym c.follow.ensures) (followed-leads a.nodes.now a.count a.props.now c.loop-node.node.0 here.0 here.1 (sym c.is_split.ensures ∙ c.loop-node-test.true)) in
    let told : c.from_residual-in_err-node-2.result ≡ Err c.in_err-node-2.field-0.0 = search rules in
    rw told (subst (leads a.nodes.now a.count a.props.now) c.in_err-node-2.was next)

pub returns : goal.returns
returns c = let a = c.args in
    let here = c.loop-node.invariant in
    rw c.end_at.ensures (ended-answers a.nodes.now a.count a.props.now c.loop-node.node.0 here.0 here.1 (sym c.is_split.ensures ∙ c.loop-node-test.false))
