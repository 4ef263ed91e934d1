-- What the checks ensure of a sound seed once the count space is cleared: lists that fit, with room for it. Assumes nothing.
use mathlib.Core.Path.{◌≡◌, sym, subst}
use mathlib.Core.Option.{none}
use Prim.Native.Nat.{ℕ, ◌*◌, ◌-◌, max}
use native.Mathlib.Omega.{arith}
use lib.ListN.{length, replicate, length-replicate}
use Rattle.model.specs.Single.{singles}
use Rattle.model.specs.Tree.{fault_of}
use Rattle.model.specs.Lent.{Lent}
use Rattle.model.specs.Accepting.{SeedRooms, SingleSmall, JobFits}
use Rattle.refuse.specs.declared.Job.{Job}
use Rattle.refuse.specs.Accepted.{Accepted}
use Rattle.layout.specs.Tree.{NodeLists, HasRoom}
use Rattle.layout.specs.Waiting.{QueueLists}
use Rattle.layout.proofs.Held.{room-fewer}
use Rattle.rows.specs.Flat.{flat}
use Rattle.rows.proofs.Cells.{length-held}
use Rattle.lent.specs.Lists.{stored_queue, lists}
use Rattle.lent.specs.Grows.{job_in}
use Rattle.lent.proofs.Accepting.{accepted-plantable}
use Rattle.seed_rows.specs.Ordered.{seed_in}
use Rattle.seed_leaves.specs.Seeded.{Seedable}

pub accepted-seedable : {job : Job} (x : Lent singles) {rows count : ℕ} → Accepted job.settings job.logs.now x rows → SeedRooms count x
    → (n : NodeLists) (q : QueueLists) → x.queue ≡ stored_queue q → HasRoom (max (2 * job.settings.max_leaves - 1) count) n → fault_of (seed_in count n) ≡ none
    → Seedable job (lists (flat x.props x.toks x.res) n q (replicate (length x.counts) 0)) count
accepted-seedable {job} x {count = count} a more n q stands room sound =
    let p = accepted-plantable x a n q stands (room-fewer room (omega arith)) in
    record {
      fitting = p.fitting;
      lawful = subst (JobFits SingleSmall (job_in job (flat x.props x.toks x.res))) (sym (length-held x.props x.toks x.res)) p.lawful;
      logs_small = p.logs_small;
      room = room;
      queue_room = p.queue_room;
      space = omega (arith, more.counts, a.row_count, length-replicate {A = ℕ} (length x.counts) 0);
      sound = sound;
    }
