-- `mode::zero_token` meets its contract. Assumes nothing.
use mathlib.Core.Path.{◌≡◌, ap}
use Prim.Native.Nat.{◌≤◌}
use native.Mathlib.Omega.{arith}
use lib.IntN.{ℤ, ◌-ℤ◌}
use mir.Syntax.{w32}
use mir.Val.{SFits}
use mir.ValLaws.{to_z-of_z}
use Rattle.model.specs.Mode.{zero_token}
use Rattle.model.specs.Pack.{packed}
use Rattle.model.specs.Token.{token_of, encoded_of}
use Rattle.model.proofs.Tokens.{residual_token_fits}
use Rattle.mode.specs.Each.{Differs}
use Rattle.mode.proofs.zero_token.Goals as goal
use Rattle.mode.proofs.zero_token.Goals.{After-uint_encode}

-- the difference fits
difference : (v m : ℤ) → Differs m v → SFits w32 v → SFits w32 (v -ℤ m)
difference v m d h = record { sfits = d.fits h.sfits }

token : (c : After-uint_encode) → (c.uint_encode.result.token ≡ token_of (packed (c.args.value -ℤ c.args.mode)))
unfolding encoded_of
token c =
    let v = c.args.value in
    let m = c.args.mode in
    rw c.uint_encode.ensures
    (ap token_of (rw (to_z-of_z w32 v c.ranges.value, to_z-of_z w32 m c.ranges.mode, to_z-of_z w32 (v -ℤ m) (difference v m c.requires c.ranges.value)) at c.pack_signed.ensures))

small : (c : After-uint_encode) → c.uint_encode.result.token ≤ 127
small c = rw (token c) (residual_token_fits (c.args.value -ℤ c.args.mode) (difference c.args.value c.args.mode c.requires c.ranges.value).sfits)

pub overflow_cast-result : goal.overflow_cast-result
overflow_cast-result c = omega (arith, small (goal.at.overflow_cast-result c).After-uint_encode)

pub returns : goal.returns
unfolding zero_token
returns c =
    let a = (goal.at.returns c).After-uint_encode in
    (omega (arith, token a, small a), omega (arith, small a))
