-- `queue::Queue::unqueue` meets its contract: the cells behind the leaf move up in each list. Assumes nothing.
use Rattle.queue.specs.Lent.{queue_in}
use Rattle.queue.proofs.Queues.{taken_out}
use Rattle.queue.proofs.Queue.unqueue.Goals as goal

pub returns-clause-queue : goal.returns-clause-queue
returns-clause-queue c = let q = c.args.self.now in
    rw (c.copy_within.ensures.after, c.copy_within-2.ensures.after, c.copy_within-3.ensures.after)
    (λ leaves h. taken_out (queue_in q) leaves q.waiting h c.args.k c.requires.0 c.requires.1)
