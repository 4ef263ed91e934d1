-- The measure is the number: a call of itself has a tenth of it. Assumes nothing.
use Rattle.listing.proofs.put.+decimal.Given as goal

abbrev pub decreases-decimal : goal.decreases-decimal
decreases-decimal l = l.n
