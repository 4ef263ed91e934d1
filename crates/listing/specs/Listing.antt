-- The token lister's text (01, "The bench table"). Assumes nothing.
use Rattle.std.specs.Prelude.{ℕ, zero, suc, ◌+◌, ◌-◌, ◌*◌, ◌/◌, ◌%◌, ◌^◌, min, cond, List, [], ◌∷◌, ◌++◌, ltb, ℤ, pos, negsuc, length, take, get_or}
use Rattle.model.specs.Pack.{packed}
use Rattle.model.specs.Token.{encoded_of}
use Rattle.listing.specs.declared.Listed.{Listed}
use Rattle.listing.specs.Text.{codes, decimal, signed_decimal, joined}

-- the number of a 32-bit pattern
unfoldable pub signed : ℕ → ℤ
signed p = cond (ltb p (2 ^ 31)) (pos p) (negsuc (2 ^ 32 - suc p))

-- four little-endian bytes a residual; one to three bytes left over are none
unfoldable pub residuals_of : List ℕ → List ℤ
residuals_of [] = []
residuals_of (a ∷ []) = []
residuals_of (a ∷ b ∷ []) = []
residuals_of (a ∷ b ∷ c ∷ []) = []
residuals_of (a ∷ b ∷ c ∷ d ∷ rest) = signed (a + 256 * b + 65536 * c + 16777216 * d) ∷ residuals_of rest

-- the residual whose four bytes start at a place
unfoldable pub residual_at : List ℕ → ℕ → ℤ
residual_at input at = signed (get_or input at 0 + 256 * get_or input (at + 1) 0 + 65536 * get_or input (at + 2) 0 + 16777216 * get_or input (at + 3) 0)

-- the header
unfoldable pub header : List ℕ
header = codes "residual packed token count low\n"

-- a space and a number
unfoldable pub field : ℕ → List ℕ
field n = 32 ∷ decimal n

-- per residual: itself, packed, token, extra-bit count, extra bits
unfoldable pub line_of : ℤ → List ℕ
line_of z = let e = encoded_of (packed z) in signed_decimal z ++ joined field (packed z ∷ e.token ∷ e.nbits ∷ e.bits ∷ []) ++ (10 ∷ [])

-- one to three bytes left print `short` and their number
unfoldable pub short_of : ℕ → List ℕ
short_of zero = []
short_of (suc n) = codes "short " ++ decimal (suc n) ++ (10 ∷ [])

-- what the lister prints, for its whole input
unfoldable pub listing : List ℕ → List ℕ
listing input = header ++ joined line_of (residuals_of input) ++ short_of (length input % 4)

-- ---- what the operations on slices write, by the room that they have

-- the header, if there is room
unfoldable pub header_in : ℕ → List ℕ
header_in room = cond (ltb room 32) [] header

-- how many residuals of a part are listed: as many as have room, at 40 bytes a line
unfoldable pub part_count : List ℕ → ℕ → ℕ
part_count input room = min (length input / 4) (room / 40)

-- their lines
unfoldable pub part_text : List ℕ → ℕ → List ℕ
part_text input room = joined line_of (take (part_count input room) (residuals_of input))

-- what is answered: how many residuals, and how long their lines are
unfoldable pub part_of : List ℕ → ℕ → Listed
part_of input room = record { taken = part_count input room; written = length (part_text input room) }

-- what follows the lines of the last part, if there is room
unfoldable pub rest_in : List ℕ → ℕ → List ℕ
rest_in input room = cond (ltb room 8) [] (short_of (length input % 4))
