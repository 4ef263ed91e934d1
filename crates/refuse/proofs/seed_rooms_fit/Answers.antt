-- The tests are the model's on rooms of these sizes, with the sum taken apart. Assumes nothing.
use mathlib.Core.Bool.{or_assoc, or-true}
use Prim.Native.Nat.{◌+◌, ◌*◌}
use native.Mathlib.Omega.{arith}
use borrow.Author.Tests.{lt-ltb}
use Rattle.model.specs.Refuse.{is_short_of_seed_room}
use Rattle.refuse.proofs.Ranges.{seed-sum}
use Rattle.refuse.proofs.seed_rooms_fit.Goals as goal

pub returns-then-rooms-rows : goal.returns-then-rooms-rows
unfolding is_short_of_seed_room
returns-then-rooms-rows c = λ x rows h.
    let job = c.args in
    simp (rows, h.nodes, h.spans, h.counts, lt-ltb job.rooms.counts (job.rows + 2 * job.count) (omega arith), or-true)

pub returns : goal.returns
unfolding is_short_of_seed_room
returns c = λ x rows h.
    let job = c.args in
    simp (rows, h.nodes, h.spans, h.counts, seed-sum job.rooms.counts job.rows job.count (omega arith), or_assoc)
