-- `queue::Queue::enqueue` meets its contract: a leaf that offers a split is stored behind the others. Assumes nothing.
use Rattle.std.proofs.Common.{ap, arith, ◌+◌}
use Rattle.layout.specs.Values.{split_offered, offer_is}
use Rattle.layout.specs.Waiting.{QueueRoom}
use Rattle.queue.specs.Lent.{queue_in}
use Rattle.queue.proofs.Queue.enqueue.Goals as goal

pub put-requires : goal.put-requires
put-requires c = c.requires.1 (split_offered c.in-Some.split) (ap offer_is c.in-Some.is)

pub overflow_add-self : goal.overflow_add-self
overflow_add-self c = let room : QueueRoom (c.args.self.now.waiting + 1) (queue_in c.args.self.now) = c.requires.1 (split_offered c.in-Some.split) (ap offer_is c.in-Some.is) in
    omega (arith, room.gains)
