-- Demand 3, whole, of document 01's learner, and four laws more: a seed's splits stay, settling an unpruned tree changes nothing, each other split parts its
-- span between its children, and of two limits that differ by one the higher splits the leaf that goes before every other one. Assumes nothing.
use Rattle.model.specs.Profile.{single}
use Rattle.model.specs.Promise.{Demand3}
use Rattle.model.specs.SeedKept.{SeedsKept}
use Rattle.model.specs.SettledPlain.{SettledPlain}
use Rattle.model.specs.SplitMap.{SplitMap}
use Rattle.model.specs.Taken.{TakesForemost}
use Rattle.model.proofs.Learned.{result-laws}
use Rattle.model.proofs.SingleLawful.{single-lawful}
use Rattle.model.proofs.Demand3.{demand3-of}
use Rattle.model.proofs.SeedSplits.{seeds_kept_of}
use Rattle.model.proofs.SettledPlain.{settled_plain_of}
use Rattle.model.proofs.SplitMap.{split_map_of}
use Rattle.model.proofs.Taken.{single-orderly}
use Rattle.model.proofs.TakenAtExit.{takes_foremost_of}

pub demand3 : Demand3 single
demand3 = demand3-of single single-lawful (result-laws single-lawful.bounds)

pub seeds_kept : SeedsKept single
seeds_kept = seeds_kept_of single single-lawful

pub settled_plain : SettledPlain single
settled_plain = settled_plain_of single single-lawful

pub split_map : SplitMap single
split_map = split_map_of single single-lawful

pub takes_foremost : TakesForemost single
takes_foremost = takes_foremost_of single single-lawful single-orderly
