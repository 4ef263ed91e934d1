-- For how many leaves there is room, what a leaf that may wait asks of the queue, and what the cleared queue holds. Assumes nothing.
use Rattle.std.specs.Prelude.{ℕ, ◌+◌, ◌/◌, ◌≡◌, length, min, replicate, pos, Option}
use Rattle.std.proofs.Math.Option.{some}
use Rattle.model.specs.Meter.{Meter}
use Rattle.model.specs.Single.{singles}
use Rattle.model.specs.Job as model
use Rattle.layout.specs.declared.Offer.{Offer}
use Rattle.layout.specs.Values.{offer_is}
use Rattle.layout.specs.Waiting.{words_per_leaf, QueueListsOf, QueueLists, QueueRoom}

-- how many waiting leaves have all their words, a threshold and a gain, over any meter
abbrev pub leaves_lent : {M : Meter} → QueueListsOf M → ℕ
leaves_lent q = min (min (length q.words / words_per_leaf) (length q.values)) (length q.gains)

-- there is room for one leaf more, if a split is offered
abbrev pub RoomFor : Option Offer → ℕ → QueueLists → Type 0
RoomFor offer waiting q = (o : model.Offer singles) → offer_is offer ≡ some o → QueueRoom (waiting + 1) q

-- zeros, over any meter
abbrev pub cleared : {M : Meter} → QueueListsOf M → QueueListsOf M
cleared {M} q =
    record {
      words = replicate (length q.words) 0;
      values = replicate (length q.values) (pos 0);
      gains = replicate (length q.gains) M.nought;
    }
