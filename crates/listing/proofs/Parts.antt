-- What is listed part by part is the listing of the whole, if every part but the last holds whole residuals and each has room. Assumes nothing.
use mathlib.Core.Path.{◌≡◌, refl}
use mathlib.Core.List.{List, [], ◌∷◌, ◌++◌, append_assoc}
use Prim.Native.Nat.{ℕ, ◌/◌, ◌%◌, ◌≤◌}
use native.Mathlib.Nat.{min-eq_left}
use native.Mathlib.Omega.{arith}
use borrow.Author.Tests.{le-ltb}
use lib.ListN.{length, length-append}
use lib.Seq.{take_all}
use Rattle.listing.specs.Text.{joined}
use Rattle.listing.specs.Listing.{residuals_of, header, line_of, listing, part_count, part_text, rest_in}
use Rattle.listing.proofs.Writing.{joined_append}
use Rattle.listing.proofs.Lines.{residuals-length}

residuals_append : (a b : List ℕ) → length a % 4 ≡ 0 → residuals_of (a ++ b) ≡ residuals_of a ++ residuals_of b
unfolding residuals_of
residuals_append [] b h = refl
residuals_append (p ∷ []) b h = absurd (omega arith)
residuals_append (p ∷ q ∷ []) b h = absurd (omega arith)
residuals_append (p ∷ q ∷ r ∷ []) b h = absurd (omega arith)
residuals_append (p ∷ q ∷ r ∷ s ∷ rest) b h = rw (residuals_append rest b (omega arith))

-- a part with room for all its lines
part-whole : (input : List ℕ) (room : ℕ) → length input / 4 ≤ room / 40 → part_text input room ≡ joined line_of (residuals_of input)
unfolding part_text part_count
part-whole input room h =
    let all : length (residuals_of input) ≤ length input / 4 = omega (arith, residuals-length input) in
    rw (min-eq_left h, take_all (length input / 4) (residuals_of input) all)

-- parts that hold whole residuals, and have room
abbrev pub Whole : ℕ → List (List ℕ) → Type 0
Whole room [] = Unit {0}
Whole room (p ∷ rest) = (length p % 4 ≡ 0) × (length p / 4 ≤ room / 40) × Whole room rest

lines_whole : (room : ℕ) (parts : List (List ℕ)) (last : List ℕ) → Whole room parts → length last / 4 ≤ room / 40
    → joined (λ p. part_text p room) parts ++ part_text last room ≡ joined line_of (residuals_of (joined (λ p. p) parts ++ last))
unfolding joined
lines_whole room [] last w h = part-whole last room h
lines_whole room (p ∷ rest) last w h =
    let back = joined (λ p. p) rest ++ last in
    rw (
      append_assoc (part_text p room) (joined (λ p. part_text p room) rest) (part_text last room),
      lines_whole room rest last w.2 h,
      part-whole p room w.1,
      append_assoc p (joined (λ p. p) rest) last,
      residuals_append p back w.0,
      joined_append line_of (residuals_of p) (residuals_of back),
    )

rest-whole : (room : ℕ) (parts : List (List ℕ)) (last : List ℕ) → Whole room parts → length (joined (λ p. p) parts ++ last) % 4 ≡ length last % 4
unfolding joined
rest-whole room [] last w = refl
rest-whole room (p ∷ rest) last w =
    let back = joined (λ p. p) rest ++ last in
    rw (append_assoc p (joined (λ p. p) rest) last, length-append p back) (omega (arith, w.0, rest-whole room rest last w.2))

pub parts-listed : (room : ℕ) (parts : List (List ℕ)) (last : List ℕ) → 8 ≤ room → Whole room parts → length last / 4 ≤ room / 40
    → header ++ (joined (λ p. part_text p room) parts ++ part_text last room) ++ rest_in last room ≡ listing (joined (λ p. p) parts ++ last)
unfolding rest_in listing
parts-listed room parts last more w h = rw (le-ltb room 8 more, lines_whole room parts last w h, rest-whole room parts last w)
