-- The tests are the model's on lists of these lengths, in other brackets. Assumes nothing.
use mathlib.Core.Bool.{or_assoc}
use Rattle.model.specs.Refuse.{is_uneven}
use Rattle.refuse.proofs.shape_fits.Goals as goal

pub returns : goal.returns
unfolding is_uneven
returns c = λ x h. simp (h.props, h.toks, h.res, or_assoc)
