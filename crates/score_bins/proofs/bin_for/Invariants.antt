-- `score_bins::bin_for` meets its contract: the candidates passed, with those that are left, are the whole count. Assumes nothing.
use Rattle.std.proofs.Common.{◌≡◌, ◌+◌, drop}
use Rattle.score_bins.specs.Bins.{bin_of}
use Rattle.score_bins.proofs.bin_for.Given as goal

abbrev pub invariant-loop-candidate : goal.invariant-loop-candidate
invariant-loop-candidate l = l.bin + bin_of (drop l.candidate-index l.cands) l.v ≡ bin_of l.cands l.v
