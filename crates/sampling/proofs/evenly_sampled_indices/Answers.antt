-- `sampling::evenly_sampled_indices` meets its contract: it refuses in the order of document 01, else all numbers are written. Assumes nothing.
use native.Mathlib.Omega.{arith}
use Rattle.sampling.proofs.Picked.{too_many, no_room, picks}
use Rattle.sampling.proofs.evenly_sampled_indices.Goals as goal

pub returns-then-rows-gt-MAX_ROWS : goal.returns-then-rows-gt-MAX_ROWS
returns-then-rows-gt-MAX_ROWS c = too_many _ _ _ c.if-rows-gt-MAX_ROWS.true

pub returns-then-out-picked : goal.returns-then-out-picked
returns-then-out-picked c = no_room _ _ _ (omega arith) (omega arith)

pub returns : goal.returns
returns c = rw (c.pick_rows.ensures, c.min-picked.ensures) (picks _ _ _ (omega arith) (omega arith))
