-- The tests are the model's, in other brackets. Assumes nothing.
use mathlib.Core.Bool.{and_assoc, not-not}
use Rattle.model.specs.Refuse.{is_outside}
use Rattle.refuse.proofs.settings_fit.Goals as goal

pub returns : goal.returns
unfolding is_outside
returns c = simp (c.price_fits.ensures, c.price_fits-2.ensures, and_assoc, not-not)
