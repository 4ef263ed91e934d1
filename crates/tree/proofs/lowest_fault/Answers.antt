-- `tree::lowest_fault` meets its contract: the place of the first node that is not fine is the fault found from node 0 on. Assumes nothing.
use Rattle.std.proofs.Common.{◌≡◌, length, sym, ap, ◌∙◌, rules, tests}
use Rattle.std.specs.List.{zip, enumerate_from, position_from}
use Rattle.std.proofs.lemmas.Iterator.{YieldsList-from_slice, YieldsList-from_zip}
use Rattle.std.proofs.lemmas.Iterator.Consumers.{YieldsList-from_enumerate}
use Rattle.std.proofs.lemmas.Iterator.Search.{position_from_yields_List}
use Rattle.std.proofs.lemmas.Iterator.Adapters.{position_from-zero}
use Rattle.model.specs.Answered.{option_of}
use Rattle.tree.proofs.Faults.{is_misfit, first-misfit}
use Rattle.tree.proofs.lowest_fault.Goals as goal
use Rattle.tree.proofs.lowest_fault.Goals.{After-position}

place : (c : After-position) → let n = length c.args.tree.now in
    c.position.result ≡ position_from (is_misfit n) 0 (enumerate_from 0 (zip c.args.tree.now c.args.parents.now))
place c =
    let t = c.args.tree.now in
    let ps = c.args.parents.now in
    position_from_yields_List {s = c.enumerate-nodes.result} (is_misfit (length t)) c.position.new.self _ c.position.result c.position.ensures.ran
    (YieldsList-from_enumerate (YieldsList-from_zip (YieldsList-from_slice t cc) (YieldsList-from_slice ps cc)) cc) (λ x b q k. search (rules, tests))
    ∙ position_from-zero (is_misfit (length t)) (enumerate_from 0 (zip t ps))

pub returns-in_err-fault : goal.returns-in_err-fault
returns-in_err-fault c =
    rw c.from_residual.ensures (ap option_of (sym c.in_err-fault.was ∙ place (goal.at.returns-in_err-fault c).After-position)
    ∙ first-misfit c.args.tree.now c.args.parents.now c.requires)

pub returns : goal.returns
returns c = ap option_of (sym c.in_ok-fault.was ∙ place (goal.at.returns c).After-position) ∙ first-misfit c.args.tree.now c.args.parents.now c.requires
