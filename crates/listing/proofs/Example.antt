-- 01's example, residuals 0, -8 and 8, with the bytes that a fourth residual lacks left over. Assumes nothing.
use mathlib.Core.Path.{◌≡◌, refl}
use mathlib.Core.List.{[], ◌∷◌}
use lib.Ieee.{size}
use Rattle.model.specs.Pack.{packed}
use Rattle.model.specs.Token.{top_bit, token_of, extra_count, extra_bits, encoded_of}
use Rattle.listing.specs.Text.{codes, decimal_in, decimal, signed_decimal, joined}
use Rattle.listing.specs.Listing.{signed, residuals_of, header, field, line_of, short_of, listing}

pub example : listing (0 ∷ 0 ∷ 0 ∷ 0 ∷ 248 ∷ 255 ∷ 255 ∷ 255 ∷ 8 ∷ 0 ∷ 0 ∷ 0 ∷ []) ≡ codes "residual packed token count low\n0 0 0 0 0\n-8 15 15 0 0\n8 16 16 2 0\n"
unfolding listing header residuals_of signed joined line_of field encoded_of short_of codes signed_decimal decimal decimal_in packed token_of top_bit size extra_count extra_bits
example = refl

pub short : listing (0 ∷ 0 ∷ 0 ∷ 0 ∷ 1 ∷ 2 ∷ 3 ∷ []) ≡ codes "residual packed token count low\n0 0 0 0 0\nshort 3\n"
unfolding listing header residuals_of signed joined line_of field encoded_of short_of codes signed_decimal decimal decimal_in packed token_of top_bit size extra_count extra_bits
short = refl

pub longest : joined line_of (residuals_of (0 ∷ 0 ∷ 0 ∷ 128 ∷ [])) ≡ codes "-2147483648 4294967295 127 29 536870911\n"
unfolding residuals_of signed joined line_of field encoded_of codes signed_decimal decimal decimal_in packed token_of top_bit size extra_count extra_bits
longest = refl
