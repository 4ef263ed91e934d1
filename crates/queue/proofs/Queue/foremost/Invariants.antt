-- `queue::Queue::foremost` meets its contract: best is the foremost of the first k places, and top its gain. Assumes nothing.
use Rattle.std.proofs.Common.{◌≡◌, ◌<◌, get_or}
use Rattle.std.specs.Float.{nan}
use Rattle.layout.specs.Waiting.{foremost}
use Rattle.queue.specs.Lent.{queue_in}
use Rattle.queue.proofs.Queue.foremost.Given as goal

abbrev pub invariant-loop-k : goal.invariant-loop-k
invariant-loop-k l = record {
  below : l.best < l.k;
  best : l.best ≡ foremost (queue_in l.self) l.at.spans.now l.k;
  top : l.top ≡ get_or l.self.gains.now l.best nan;
}
