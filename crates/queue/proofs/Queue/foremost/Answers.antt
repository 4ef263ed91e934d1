-- `queue::Queue::foremost` meets its contract: best is the foremost of the first k places, and top its gain. Assumes nothing.
use Rattle.std.proofs.Common.{◌≡◌, refl, ap, sym, ◌∙◌, arith}
use Rattle.folds.proofs.First.{first_one, first_more}
use Rattle.layout.specs.Waiting.{goes_before, foremost}
use Rattle.queue.specs.Lent.{queue_in}
use Rattle.queue.proofs.Queue.foremost.Goals.{then-goes_before, else-goes_before}
use Rattle.queue.proofs.Queue.foremost.Goals as goal

pub loop-k-init : goal.loop-k-init
loop-k-init c =
    record { below = omega arith; best = sym (first_one (goes_before (queue_in c.args.self.now) c.args.at.now.spans.now)); top = refl }

pub goes_before-requires : goal.goes_before-requires
goes_before-requires c =
    let h = c.loop-k.invariant in
    record { places = (omega arith, omega (arith, h.below), c.requires.1, c.requires.2); top = h.top }

pub loop-k-preserved : goal.loop-k-preserved
loop-k-preserved c =
    let l = c.loop-k in
    let h = l.invariant in
    let more = first_more (goes_before (queue_in c.args.self.now) c.args.at.now.spans.now) l.k l.best c.if-goes_before.best h.best in
    elim c.if-goes_before.branch [
      | then-goes_before w ↦ record {
        below = rw w.best-is (omega arith);
        best = more (rw (← c.goes_before.ensures, w.if-goes_before.true) w.best-is);
        top = rw (w.best-is, w.top-is) refl;
      }
      | else-goes_before w ↦ record {
        below = rw w.best-is (omega (arith, h.below));
        best = more (rw (← c.goes_before.ensures, w.if-goes_before.false) w.best-is);
        top = rw (w.best-is, w.top-is) h.top;
      }
    ]

pub returns : goal.returns
returns c =
    let last = c.loop-k-test.false in
    let end : c.loop-k.k ≡ c.args.self.now.waiting = omega arith in
    c.loop-k.invariant.best ∙ ap (foremost (queue_in c.args.self.now) c.args.at.now.spans.now) end
