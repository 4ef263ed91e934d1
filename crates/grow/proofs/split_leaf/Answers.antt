-- `grow::split_leaf` meets its contract: one split of the code is one step of the model. Assumes nothing.
use mathlib.Core.Path.{refl}
use Prim.Native.Nat.{◌+◌}
use native.Mathlib.Omega.{arith}
use Rattle.layout.specs.Lent.{lists_in}
use Rattle.layout.proofs.Queue.{fewer-room}
use Rattle.grow.proofs.Choosing as choosing
use Rattle.grow.proofs.Coding as coding
use Rattle.grow.proofs.split_leaf.Goals as goal

pub at-pending-requires : goal.at-pending-requires
at-pending-requires c =
    let asked = c.requires in
    let g = asked.growable.grows in
    fewer-room g.queue_room (omega (arith, choosing.inside c.args.left g c.args.k asked.some_wait asked.best))

pub bounds-lists-i : goal.bounds-lists-i
bounds-lists-i c =
    let asked = c.requires in
    choosing.spans-room c.args.left asked.growable.grows c.args.k asked.some_wait asked.best c.at-pending.result c.at-pending.ensures

pub bounds-lists-i-2 : goal.bounds-lists-i-2
bounds-lists-i-2 c =
    let asked = c.requires in
    choosing.nodes-room c.args.left asked.growable.grows c.args.k asked.some_wait asked.best c.at-pending.result c.at-pending.ensures

pub split_rows-sides-requires : goal.split_rows-sides-requires
split_rows-sides-requires c =
    let asked = c.requires in
    let g = asked.growable.grows in
    let same = choosing.depth_is c.args.left g c.args.k asked.some_wait asked.best c.at-pending.result c.at-pending.ensures in
    record {
      fits = choosing.rows_fit c.args.left g c.args.k asked.some_wait asked.best c.at-pending.result c.at-pending.ensures _ refl;
      below = choosing.below-is c.args.left g c.args.k asked.some_wait asked.best c.at-pending.result c.at-pending.ensures _ refl;
      shallow = omega (arith, same, choosing.shallow-leaf c.args.left g c.args.k asked.some_wait asked.best);
    }

pub split_nodes-requires : goal.split_nodes-requires
split_nodes-requires c =
    let asked = c.requires in
    let fits = coding.nodes_fit c.args.left asked.growable.grows c.args.k asked.some_wait asked.best c.at-pending.result c.at-pending.ensures _ refl c.split_rows-sides.ensures.split in
    record { has_room = fits.0; i_lt_count = fits.1 }

pub requeue-requires : goal.requeue-requires
requeue-requires c =
    let asked = c.requires in
    let g = asked.growable.grows in
    let left = c.args.left in
    let k = c.args.k in
    (choosing.inside left g k asked.some_wait asked.best, choosing.few-nodes left g k asked.some_wait asked.best, choosing.queue_room left g k asked.some_wait asked.best)

pub grown_bits-requires : goal.grown_bits-requires
grown_bits-requires c =
    let asked = c.requires in
    coding.growth_fits c.args.left asked.growable.grows c.args.k asked.some_wait asked.best c.at-pending.result c.at-pending.ensures _ refl c.split_rows-sides.ensures.split

pub returns-clause-grown : goal.returns-clause-grown
returns-clause-grown c lent st seeds given g =
    let asked = c.requires in
    coding.grows-on c.args.left g c.args.k asked.some_wait asked.best c.at-pending.result c.at-pending.ensures _ refl c.split_rows-sides.ensures.split
    {lists' = lists_in c.split_nodes.new.at} {q' = c.requeue.new.queue} {tree' = record { nodes = c.args.tree.nodes + 2; bits = c.grown_bits.result }} c.split_rows-sides.ensures.zeros refl
    c.split_nodes.ensures.nodes (rw c.split_rows-sides.ensures.split.depth_is at c.requeue.ensures.queue) c.requeue.ensures.lengths.0 c.requeue.ensures.lengths.1 c.grown_bits.ensures
