-- Text as a list of ASCII codes, and text written into a list. Assumes nothing.
use Rattle.std.specs.Prelude.{ℕ, zero, suc, ◌+◌, ◌/◌, ◌%◌, ◌≤◌, ◌≡◌, cond, List, [], ◌∷◌, ◌++◌, ltb, ℤ, pos, negsuc, length, take, drop}
use Prim.Native.Char.{code}
use Prim.Native.String.{String, [] as []ˢ, ◌∷◌ as ◌∷ˢ◌}

-- the codes of a quoted text
unfoldable pub codes : String → List ℕ
codes []ˢ = []
codes (c ∷ˢ s) = code c ∷ codes s

-- the code of a digit
abbrev pub digit : ℕ → ℕ
digit d = 48 + d

-- a number of at most d digits in decimal: below 10 one digit, else the text of n / 10 and the digit n % 10
unfoldable pub decimal_in : ℕ → ℕ → List ℕ
decimal_in zero n = []
decimal_in (suc d) n = let front = decimal_in d (n / 10) in cond (ltb n 10) (digit n ∷ []) (front ++ (digit (n % 10) ∷ []))

-- a number in decimal: n has at most n + 1 digits
unfoldable pub decimal : ℕ → List ℕ
decimal n = decimal_in (suc n) n

-- a signed number in decimal, with a minus sign where it is below 0
unfoldable pub signed_decimal : ℤ → List ℕ
signed_decimal (pos n) = decimal n
signed_decimal (negsuc n) = 45 ∷ decimal (suc n)

-- the texts of several things, one after the other
unfoldable pub joined : {A : Type 0} → (A → List ℕ) → List A → List ℕ
joined f [] = []
joined f (x ∷ rest) = f x ++ joined f rest

-- a list with a text written over it from a place on
unfoldable pub over : List ℕ → ℕ → List ℕ → List ℕ
over old at text = take at old ++ text ++ drop (at + length text) old

-- n counts codes at the front of a list; the second part follows from the first, and is what `&out[..n]` asks besides
abbrev pub Counts : ℕ → List ℕ → Type 0
Counts n xs = (n ≤ length xs) × (n ≡ length (take n xs))

-- there is room for a text from a place on
abbrev pub Room : List ℕ → ℕ → List ℕ → Type 0
Room old at text = at + length text ≤ length old

-- the text was written from `at` on, up to `end`
pub record Wrote (old : List ℕ) (at : ℕ) (text new : List ℕ) (end : ℕ) : Type 0 where
  pub whole : new ≡ over old at text
  pub after : end ≡ at + length text
