-- `parts::ostrovuc_set_windows` meets its contract: first tokens and starts are those of the lanes. Assumes nothing.
use mathlib.Core.Path.{◌≡◌}
use Prim.Native.Nat.{◌<◌}
use native.Mathlib.Omega.{arith}
use lib.ListN.{length}
use Rattle.score_windows.specs.Windows as lanes
use Rattle.score_windows.specs.Windows.{preds_of}
use Rattle.parts.proofs.Laning.{lanes-many, first-low, start-low, end-low, windows-listed}
use Rattle.parts.proofs.ostrovuc_set_windows.Goals as goal
use Rattle.parts.proofs.ostrovuc_set_windows.Goals.{After-deref-lane-items}

-- the lanes that the loop goes over are packed
packed : (c : After-deref-lane-items)
    → lanes.Windows c.args.node.now c.args.alphabet c.deref-lane-items.result.now c.set_windows-lanes.result.1
packed c = rw c.deref-lane-items.ensures.0 c.set_windows-lanes.ensures.windows

-- they have the side predictors that are lent
preds-kept : (c : After-deref-lane-items) → preds_of c.deref-lane-items.result.now ≡ c.args.preds.now
preds-kept c = rw c.deref-lane-items.ensures.0 c.set_windows-lanes.ensures.preds

pub overflow_cast-firsts : goal.overflow_cast-firsts
overflow_cast-firsts c =
    let s = (goal.at.overflow_cast-firsts c).After-deref-lane-items in
    let many = lanes-many (packed s) (preds-kept s) in
    let here : c.loop-j.j < length c.args.preds.now = omega (arith, c.loop-j-test.true, many) in
    omega (arith, first-low (packed s) (preds-kept s) c.loop-j.j here, c.requires.tokens)

pub overflow_cast-offs : goal.overflow_cast-offs
overflow_cast-offs c =
    let s = (goal.at.overflow_cast-offs c).After-deref-lane-items in
    let many = lanes-many (packed s) (preds-kept s) in
    let here : c.loop-j.j < length c.args.preds.now = omega (arith, c.loop-j-test.true, many) in
    omega (arith, start-low (packed s) (preds-kept s) c.loop-j.j here c.requires.few, c.requires.tokens)

pub overflow_cast-offs-2 : goal.overflow_cast-offs-2
overflow_cast-offs-2 c =
    let s = (goal.at.overflow_cast-offs-2 c).After-deref-lane-items in
    omega (arith, end-low (packed s) (preds-kept s) c.requires.few, c.requires.tokens)

pub returns : goal.returns
returns c =
    let s = (goal.at.returns c).After-deref-lane-items in
    let many = lanes-many (packed s) (preds-kept s) in
    let all : c.loop-j.j ≡ length c.args.preds.now = omega (arith, c.loop-j-test.false, many) in
    windows-listed (packed s) (preds-kept s) c.loop-j.firsts c.loop-j.offs (omega (arith, c.requires.firsts_room))
    (omega (arith, c.requires.offs_room)) (rw all at c.loop-j.invariant.0) (rw all at c.loop-j.invariant.1)
