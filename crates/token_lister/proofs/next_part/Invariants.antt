-- `token_lister::next_part`: what was read fits the buffer; the measure is the room that is left. Assumes nothing.
use Rattle.std.proofs.Common.{◌-◌, ◌≤◌, length}
use Rattle.token_lister.proofs.next_part.Given as goal

abbrev pub invariant-loop-n : goal.invariant-loop-n
invariant-loop-n g l = l.n ≤ length l.part

abbrev pub decreases-loop-n : goal.decreases-loop-n
decreases-loop-n g l = length l.initial.part - l.n
