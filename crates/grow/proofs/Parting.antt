-- A partition keeps what the learner asks of the rows' lists: it only moves rows, so that every token stays below the alphabet. Assumes nothing.
use mathlib.Core.Path.{◌≡◌}
use mathlib.Core.Bool.{Bool, true, false, cond}
use mathlib.Core.List.{List, [], ◌∷◌, ◌++◌}
use Prim.Native.Nat.{ℕ, zero, suc, ◌+◌, ◌*◌, ◌/◌, ◌%◌, ◌<◌}
use native.Mathlib.Omega.{arith}
use lib.ListN.{length, get_or, take, drop}
use lib.IntN.{ℤ}
use Rattle.std.specs.Prelude.{All}
use Rattle.std.proofs.lemmas.List.Elements.{All-nil, All-cons, All-head, All-tail, All-push, All-take, All-drop, All-append, All-get_or, All-from_get_or}
use Rattle.model.specs.Settings.{toks_per_row}
use Rattle.model.specs.Rows.{Row, Span, tok_of, is_above, within}
use Rattle.model.specs.Partition.{second, last_first, in_front, at_back, parts, above_rows, other_rows}
use Rattle.refuse.specs.declared.Job.{Job}
use Rattle.model.specs.Promise.{no_row}
use Rattle.rows.specs.Flat.{Flat, held_in, row_count}
use Rattle.rows.specs.Parted.{Partitioned, parted}
use Rattle.rows.proofs.Cells.{length-held, tok_held}
use Rattle.rows.proofs.Shapes.{shaped_still}
use Rattle.lent.specs.Fitting.{Fitting}
use Rattle.leaf.proofs.Making.{fitting_still}

-- ---- whatever holds of each row holds of each row of either part
module _ (P : Row → Type 0) where
  all-second : (x : Row) (xs : List Row) → P x → All P xs → All P (second x xs)
  all-second x [] p h = All-cons P x [] p h
  all-second x (y ∷ ys) p h = All-cons P y (x ∷ ys) (All-head P y ys h) (All-cons P x ys p (All-tail P y ys h))

  all_last : (xs : List Row) → All P xs → All P (last_first xs)
  all_last [] h = h
  all_last (x ∷ xs) h = all-second x (last_first xs) (All-head P x xs h) (all_last xs (All-tail P x xs h))

  abbrev Both : List Row × List Row → Type 0
  Both p = All P p.0 × All P p.1

  all-parts : (above : Row → Bool) (fuel : ℕ) (xs : List Row) → All P xs → Both (parts above fuel xs)
  unfolding parts
  all-parts above zero xs h = (All-nil P, h)
  all-parts above (suc fuel) [] h = (h, h)
  all-parts above (suc fuel) (x ∷ xs) h =
      let rest = All-tail P x xs h in
      go (above x) (all-parts above fuel xs rest) (all-parts above fuel (last_first xs) (all_last xs rest))
    where
      go : (b : Bool) → Both (parts above fuel xs) → Both (parts above fuel (last_first xs))
          → Both (cond b (in_front x (parts above fuel xs)) (at_back x (parts above fuel (last_first xs))))
      go true p q = (All-cons P x (parts above fuel xs).0 (All-head P x xs h) p.0, p.1)
      go false p q = (q.0, All-push P (parts above fuel (last_first xs)).1 x q.1 (All-head P x xs h))

  all-parted : (prop : ℕ) (val : ℤ) (s : Span) (rows : List Row) → All P rows → All P (parted prop val s rows)
  unfolding parted above_rows other_rows
  all-parted prop val s rows h =
      let mine = within s rows in
      let above = is_above prop val in
      let both = all-parts above (length mine) mine (All-drop P s.first (take s.end rows) (All-take P s.end rows h)) in
      let front = All-append P (take s.first rows) (above_rows above mine) (All-take P s.first rows h) both.0 in
      let upto = All-append P (take s.first rows ++ above_rows above mine) (other_rows above mine) front both.1 in
      All-append P (take s.first rows ++ above_rows above mine ++ other_rows above mine) (drop s.end rows) upto (All-drop P s.end rows h)

-- ---- the tokens
pub parted-fitting : {job : Job} {counts : List ℕ} {prop : ℕ} {val : ℤ} {sp : Span} {x y : Flat} {r : ℕ}
    → Fitting job counts x → Partitioned prop val sp x y r → Fitting job counts y
parted-fitting {job} {counts} {prop} {val} {sp} {x} {y} {r} f p = fitting_still f p.changed.size below
  where
    Low : Row → Type 0
    Low row = (t : ℕ) → t < toks_per_row → tok_of row t < job.settings.alphabet

    first : All Low (held_in x)
    first = All-from_get_or Low (held_in x) no_row (λ i l t h.
        let inside : i < row_count x = omega (arith, length-held x.props x.toks x.res) in
        let toks = f.shaped.toks in
        rw (tok_held x.props x.toks x.res i t inside h) (f.below (i * 14 + t) (omega arith)))

    then : All Low (held_in y)
    then = rw p.changed.rows (all-parted Low prop val sp (held_in x) first)

    below : (k : ℕ) → k < length y.toks → get_or y.toks k 0 < job.settings.alphabet
    below k l =
        let toks = (shaped_still p.changed.size f.shaped).toks in
        let inside : k / 14 < row_count y = omega arith in
        let place : k / 14 * 14 + k % 14 ≡ k = omega arith in
        let some = f.settings.alphabet.0 in
        let low : tok_of (get_or (held_in y) (k / 14) no_row) (k % 14) < job.settings.alphabet =
        All-get_or Low (held_in y) (k / 14) no_row (omega (arith, length-held y.props y.toks y.res)) then (k % 14) (omega arith) in
        rw (tok_held y.props y.toks y.res (k / 14) (k % 14) inside (omega arith), place) at low
