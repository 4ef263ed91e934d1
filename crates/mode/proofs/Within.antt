-- A span's tokens are a part of the list: made anew there, they are made anew in the list. Assumes nothing.
use mathlib.Core.Path.{◌≡◌, refl, sym}
use mathlib.Core.List.{List, [], ◌∷◌, ◌++◌}
use Prim.Native.Nat.{ℕ, suc, ◌+◌, ◌-◌, ◌*◌, ◌≤◌, ◌<◌}
use native.Mathlib.Omega.{arith}
use borrow.Rule.Slice.PartMut.{post_of, put_mid, put_same}
use lib.IntN.{ℤ}
use lib.ListN.{length, set, take, drop, length-set}
use lib.Seq.{slice, length-slice, length-take-le, set-append_left}
use Rattle.std.proofs.lemmas.List.{drop-take, set-append_right, get_or_append_left, get_or-append_right, length-take, length-drop}
use Rattle.model.specs.Settings.{toks_per_row}
use Rattle.model.specs.Mode.{zero_token}
use Rattle.mode.specs.Column.{rezeroed}
use Rattle.mode.specs.Lent.{Inside, LowTokens}

-- the residuals of a span, as the code lends them
pub span-is : (first end : ℕ) (l : List ℤ) → first ≤ end → take (end - first) (drop first l) ≡ slice first end l
span-is first end l h = let e : first + (end - first) ≡ end = omega arith in sym (rw e at (drop-take first (end - first) l))

module _ (first k : ℕ) (whole : List ℕ) (long : first * toks_per_row ≤ length whole) where
  -- with the part put back
  abbrev back : List ℕ → List ℕ
  back = put_mid (first * toks_per_row) k whole

  front : length (take (first * toks_per_row) whole) ≡ first * toks_per_row
  front = length-take-le (first * toks_per_row) whole long

  stored : (part : List ℕ) (i t : ℕ) → i < length part → back (set part i t) ≡ set (back part) (first * toks_per_row + i) t
  stored part i t h =
      let less : first * toks_per_row + i - first * toks_per_row ≡ i = omega arith in
      let rest = post_of (first * toks_per_row) k whole in
      sym (rw (less, set-append_left part rest i t h) at (set-append_right (take (first * toks_per_row) whole) (part ++ rest) (first * toks_per_row) (first * toks_per_row + i) t front (omega arith)))

  anew : (m : ℤ) (vs : List ℤ) (j : ℕ) (part : List ℕ) → (j + length vs) * toks_per_row ≤ length part
      → back (rezeroed m j vs part) ≡ rezeroed m (first + j) vs (back part)
  unfolding rezeroed
  anew m [] j part h = refl
  anew m (v ∷ vs) j part h =
      let next : first + suc j ≡ suc (first + j) = omega arith in
      let place : first * toks_per_row + j * toks_per_row ≡ (first + j) * toks_per_row = omega arith in
      let t = zero_token m v in
      rw (next, stored part (j * toks_per_row) t (omega arith), place) at (anew m vs (suc j) (set part (j * toks_per_row) t) (rw length-set (omega arith)))

pub rezeroed-within : (m : ℤ) (first end : ℕ) (res : List ℤ) (tok : List ℕ) → Inside first end res → length tok ≡ length res * toks_per_row
    → put_mid (first * toks_per_row) (end * toks_per_row - first * toks_per_row) tok
    (rezeroed m 0 (slice first end res) (take (end * toks_per_row - first * toks_per_row) (drop (first * toks_per_row) tok)))
    ≡ rezeroed m first (slice first end res) tok
rezeroed-within m first end res tok inside e =
    let at = inside.inside in
    let up = inside.ordered in
    let k = end * toks_per_row - first * toks_per_row in
    let part = take k (drop (first * toks_per_row) tok) in
    let n = length-slice first end res at in
    let all : length part ≡ k = omega (arith, e, length-take k (drop (first * toks_per_row) tok), length-drop (first * toks_per_row) tok) in
    let none : first + 0 ≡ first = omega arith in
    rw (none, put_same (first * toks_per_row) k tok) at (anew first k tok (omega arith) m (slice first end res) 0 part (omega (arith, n, all)))

pub low-within : (first end : ℕ) (tok part : List ℕ) → end * toks_per_row ≤ length tok → length part ≡ end * toks_per_row - first * toks_per_row → LowTokens 0 (end - first) part
    → LowTokens first end (put_mid (first * toks_per_row) (end * toks_per_row - first * toks_per_row) tok part)
low-within first end tok part long e low i from below =
    let k = end * toks_per_row - first * toks_per_row in
    let rest = post_of (first * toks_per_row) k tok in
    let at : i * toks_per_row - first * toks_per_row ≡ (i - first) * toks_per_row = omega arith in
    let there = get_or-append_right (take (first * toks_per_row) tok) (part ++ rest) (first * toks_per_row) (i * toks_per_row) 0 (front first k tok (omega arith)) (omega arith) in
    let here = get_or_append_left part rest 0 ((i - first) * toks_per_row) (omega arith) in
    rw (there, at, here) (low (i - first) (omega arith) (omega arith))
