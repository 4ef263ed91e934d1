-- The tests are the model's: residuals are given if there is one. Assumes nothing.
use mathlib.Core.Path.{ap}
use mathlib.Core.Bool.{not}
use Rattle.refuse.specs.Given.{settings_of}
use Rattle.refuse.proofs.Ranges.{short-alphabet}
use Rattle.refuse.proofs.alphabet_fits.Goals as goal

pub returns : goal.returns
returns c = λ x rows res. ap not (short-alphabet (settings_of c.args.s) x _ _ rows res)
