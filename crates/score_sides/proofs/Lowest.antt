-- Turns of the loop over the side predictors. Assumes nothing.
use mathlib.Core.Path.{◌≡◌, refl}
use mathlib.Core.List.{List, [], ◌∷◌, ◌++◌}
use Prim.Native.Nat.{ℕ, ◌+◌, ◌-◌, ◌≤◌, ◌<◌}
use native.Mathlib.Numerals.{add-one}
use native.Mathlib.Decide.{dec_lt}
use native.Mathlib.Omega.{arith}
use lib.ListN.{length, get_or, drop, drop_of_length-le, length-drop, length-append}
use lib.Ieee.{Float}
use lib.Seq.{drop-cons}
use Rattle.score_windows.specs.declared.Lane.{Lane}
use Rattle.score_windows.specs.Windows.{no_lane}
use Rattle.score_sides.specs.declared.Sides.{Sides}
use Rattle.score_sides.specs.Sides.{lower_sides, no_sides}
use Rattle.score_sides.specs.Lowest.{lowest_to, LaneReady, Ready}

pub lowest_to-none : (f : ℕ → Sides) → lowest_to f 0 ≡ no_sides
unfolding lowest_to
lowest_to-none f = refl

pub lowest_to-more : (f : ℕ → Sides) (n : ℕ) → lowest_to f (n + 1) ≡ lower_sides (lowest_to f n) (f n)
unfolding lowest_to
lowest_to-more f n = rw add-one

-- what an iterator yields next of a list, of which it has yielded n
pub record Next {A : Type 0} (d : A) (xs : List A) (n : ℕ) (x : A) (ys : List A) : Type 0 where
  pub there : n < length xs
  pub item : get_or xs n d ≡ x
  pub left : ys ≡ drop (n + 1) xs

pub next : {A : Type 0} (d : A) (xs : List A) (n : ℕ) (x : A) (ys : List A) → drop n xs ≡ x ∷ ys → Next d xs n x ys
next d xs n x ys e = go (dec_lt n (length xs))
  where
    go : Dec (n < length xs) → Next d xs n x ys
    go (yes l) = let same = drop-cons xs n d l in record { there = l; item = cc; left = rw add-one cc }
    go (no l) = let none = drop_of_length-le xs {i = n} (omega arith) in absurd (let z : ◌≡◌ {A = ℕ} 0 1 = cc in omega arith)

-- it has yielded all
pub none-left : {A : Type 0} (xs : List A) (n : ℕ) → length (drop n xs) ≡ 0 → length xs ≤ n
none-left xs n e = omega (arith, length-drop n xs)

pub yielded-more : {A : Type 0} (xs : List A) (x : A) → length (xs ++ x ∷ []) ≡ length xs + 1
yielded-more xs x = length-append xs (x ∷ [])

-- the lane that comes next
pub lane-ready : (bin node : List ℕ) (alphabet : ℕ) (lanes : List Lane) (extras : List ℕ) (logs : List Float) (n : ℕ) {lane : Lane} {extra : ℕ} {ls : List Lane} {es : List ℕ}
    → Ready bin node alphabet lanes extras logs → drop n lanes ≡ lane ∷ ls → drop n extras ≡ extra ∷ es → LaneReady bin node alphabet lane extra logs
lane-ready bin node alphabet lanes extras logs n {lane} {extra} {ls} {es} r e f =
    let l = next no_lane lanes n lane ls e in
    rw (l.item, (next 0 extras n extra es f).item) at (r.each n l.there)

-- the width of a part of a list
pub width : (at n : ℕ) → at + n - at ≡ n
width at n = omega arith
