-- What the values that pass between the learner's parts say, in the model's terms (document 01, "A node"). Assumes nothing.
use Rattle.std.specs.Prelude.{Option as Maybe, Some, None}
use Rattle.std.proofs.Math.Option.{Option, none, some}
use Rattle.model.specs.Single.{singles}
use Rattle.model.specs.Tree.{Info}
use Rattle.model.specs.Job as model
use Rattle.layout.specs.declared.NodeInfo.{NodeInfo}
use Rattle.layout.specs.declared.Offer.{Offer}

-- what stands beside a node
abbrev pub info_is : NodeInfo → Info singles
info_is i = record { cost = i.cost; pred = i.pred; offset = i.offset }

-- a split that is offered
abbrev pub split_offered : Offer → model.Offer singles
split_offered o = record { prop = o.prop; val = o.val; gain = o.gain; below = o.below }

-- a split that is offered, or none
abbrev pub offer_is : Maybe Offer → Option (model.Offer singles)
offer_is (Some o) = some (split_offered o)
offer_is None = none
