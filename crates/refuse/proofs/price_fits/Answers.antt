-- The two tests are the model's: antt computes the constants. Assumes nothing.
use mathlib.Core.Path.{refl}
use lib.Ieee.{of_bits}
use Rattle.refuse.proofs.price_fits.Goals as goal

pub returns : goal.returns
unfolding of_bits
returns c = refl
