-- `listing::signed::residual_of` meets its contract. Assumes nothing.
use mathlib.Core.Path.{◌≡◌, ap, ◌∙◌}
use Prim.Native.Nat.{◌+◌, ◌*◌}
use native.Mathlib.Omega.{arith}
use lib.ListN.{get_or}
use mir.Syntax.{w32}
use mir.ValLaws.{to_z-of_z}
use Rattle.listing.specs.Listing.{signed, residual_at}
use Rattle.listing.proofs.Words.{signed-is}
use Rattle.listing.proofs.signed.residual_of.Goals as goal

pub returns : goal.returns
unfolding residual_at
returns c = let xs = c.args.bytes.now in
    let sum : get_or xs 0 0 + get_or xs 1 0 * 256 + get_or xs 2 0 * 65536 + get_or xs 3 0 * 16777216 ≡ get_or xs 0 0 + 256 * get_or xs (0 + 1) 0 + 65536 * get_or xs (0 + 2) 0 + 16777216 * get_or xs (0 + 3) 0 =
    omega arith in
    to_z-of_z w32 c.from_le_bytes.result (record { sfits = c.from_le_bytes.type_inv }) ∙ c.from_le_bytes.ensures ∙ signed-is _ ∙ ap signed sum
