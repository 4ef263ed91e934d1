-- `score::rows_in` meets its contract: the library's sum is it. Assumes nothing.
use Rattle.std.proofs.Common.{rules, ◌≡◌, ◌<◌, ◌∙◌, arith}
use Rattle.std.specs.List.{sum}
use Rattle.std.proofs.iter.runs.Sources.{sums}
use Rattle.score.proofs.Counting.{sum-is}
use Rattle.score.proofs.rows_in.Goals as goal

pub sum-requires-clause-fits : goal.sum-requires-clause-fits
sum-requires-clause-fits c = let small : sum c.args.counts.now < 4294967296 = omega (arith, sum-is c.args.counts.now, c.requires) in search (rules, sums)

pub returns : goal.returns
returns c = let is : c.sum.result ≡ sum c.args.counts.now = search (rules, sums) in is ∙ sum-is c.args.counts.now
