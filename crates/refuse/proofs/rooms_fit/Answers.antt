-- The tests are the model's on rooms of these sizes, in other brackets. Assumes nothing.
use mathlib.Core.Bool.{or_assoc}
use Rattle.model.specs.Refuse.{is_short_of_room}
use Rattle.refuse.proofs.rooms_fit.Goals as goal

pub returns : goal.returns
unfolding is_short_of_room
returns c = λ x h. simp (h.nodes, h.spans, h.queue, h.counts, c.counts_wanted.ensures, or_assoc)
