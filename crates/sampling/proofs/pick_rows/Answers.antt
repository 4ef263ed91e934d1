-- `sampling::pick_rows` meets its contract: after k turns the first k numbers are written. Assumes nothing.
use Rattle.std.proofs.Common.{◌≡◌, ℕ, ◌*◌, ◌/◌, length-set, arith}
use Rattle.sampling.proofs.Picked.{written-more, front_written}
use Rattle.sampling.proofs.pick_rows.Goals as goal

pub loop-k-preserved : goal.loop-k-preserved
loop-k-preserved c = let args = c.args in
    let more = written-more (λ (i : ℕ). i * args.rows / args.picked) c.loop-k.k _ (omega arith) c.loop-k.invariant.2 in
    (omega arith, simp length-set c.loop-k.invariant.1, more)

pub returns : goal.returns
returns c = let all : c.loop-k.k ≡ c.args.picked = omega arith in
    front_written _ _ _ c.requires (rw all at c.loop-k.invariant.2)
