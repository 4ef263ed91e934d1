-- Text written into a list, piece after piece. Assumes nothing.
use mathlib.Core.Path.{◌≡◌, refl, sym, ◌∙◌}
use mathlib.Core.List.{List, [], ◌∷◌, ◌++◌, append_assoc, append-nil}
use Prim.Native.Nat.{ℕ, suc, ◌+◌, ◌-◌, ◌≤◌, ◌<◌}
use native.Mathlib.Nat.{add-zero}
use native.Mathlib.Numerals.{add-one}
use native.Mathlib.Omega.{arith}
use borrow.Rule.Slice.PartMut.{put_mid, Post-is}
use lib.ListN.{length, take, drop, get_or, set, length-append, length-drop, take-append-drop}
use lib.Seq.{set_split, take-suc, take_all, append_snoc, length-take-le, take_at, drop_at, drop-drop}
use Rattle.listing.specs.Text.{joined, over, Counts, Room, Wrote}

module _ (old : List ℕ) (at : ℕ) (s : List ℕ) where
  -- the old front, with the text
  front_length : Room old at s → length (take at old ++ s) ≡ at + length s
  front_length room = let le : at ≤ length old = omega arith in rw (length-append (take at old) s, length-take-le at old le)

  pub over-length : Room old at s → length (over old at s) ≡ length old
  unfolding over
  over-length room = rw (length-append (take at old ++ s) (drop (at + length s) old), front_length room, length-drop (at + length s) old) (omega arith)

  pub over-over : (t : List ℕ) → Room old at (s ++ t) → over (over old at s) (at + length s) t ≡ over old at (s ++ t)
  unfolding over
  over-over t room =
      let front = take at old ++ s in
      let back = drop (at + length s) old in
      let long : length front ≡ at + length s = front_length (omega (arith, length-append s t)) in
      let end : at + length (s ++ t) ≡ at + length s + length t = omega (arith, length-append s t) in
      rw (take_at front back (at + length s) long, ← drop-drop (length t) (at + length s) (front ++ back), drop_at front back (at + length s) long, drop-drop (length t) (at + length s) old, end, append_assoc (take at old) s t)

pub room-left : (old : List ℕ) (at : ℕ) (s t : List ℕ) → Room old at (s ++ t) → Room old at s
room-left old at s t room = omega (arith, length-append s t)

-- nothing, one character, and one piece more
pub wrote_none : (old : List ℕ) (at : ℕ) → Wrote old at [] old at
unfolding over
wrote_none old at = record { whole = sym (rw (add-zero at, append-nil (take at old)) (take-append-drop at old)); after = omega arith }

pub wrote_one : (old : List ℕ) (at b : ℕ) → Room old at (b ∷ []) → Wrote old at (b ∷ []) (set old at b) (at + 1)
unfolding over
wrote_one old at b room =
    record { whole = rw (set_split old at b (omega arith), add-one at) (sym (append_snoc (take at old) b (drop (suc at) old))); after = refl }

-- a text that is copied
pub wrote_copy : (old : List ℕ) (at : ℕ) (s : List ℕ) {copied : List ℕ} → Room old at s → copied ≡ s → Wrote old at s (put_mid at (at + length s - at) old copied) (at + length s)
unfolding over
wrote_copy old at s room e = record { whole = rw (e, Post-is at (at + length s) old (omega arith)) (sym (append_assoc (take at old) s (drop (at + length s) old))); after = refl }

module _ {old : List ℕ} {at : ℕ} {s mid : List ℕ} {place : ℕ} (w : Wrote old at s mid place) where
  -- where there is room for both pieces, there is room for the second after the first
  pub room-more : (t : List ℕ) → Room old at (s ++ t) → Room mid place t
  room-more t room =
      let left = room-left old at s t room in
      rw (w.whole, w.after, over-length old at s left) (omega (arith, length-append s t))

  pub wrote-length : Room old at s → length mid ≡ length old
  wrote-length room = rw w.whole (over-length old at s room)

  pub wrote-more : {t new : List ℕ} {end : ℕ} → Wrote mid place t new end → Room old at (s ++ t) → Wrote old at (s ++ t) new end
  wrote-more {t = t} v room =
      record {
        whole = v.whole ∙ rw (w.whole, w.after) (over-over old at s t room);
        after = omega (arith, v.after, w.after, length-append s t);
      }

-- a text from the front on: the place after it is its length, and lies within the list
pub from_front : {old text new : List ℕ} {end : ℕ} → Wrote old 0 text new end → Room old 0 text → (end ≡ length text) × ((new ≡ over old 0 text) × Counts end new)
from_front {new = new} {end = end} w room =
    let within : end ≤ length new = rw (wrote-length w room) (omega (arith, w.after)) in
    (omega (arith, w.after), (w.whole, (within, sym (length-take-le end new within))))

-- ---- several things, one after the other

module _ {A : Type 0} (f : A → List ℕ) where
  pub joined_append : (xs ys : List A) → joined f (xs ++ ys) ≡ joined f xs ++ joined f ys
  unfolding joined
  joined_append [] ys = refl
  joined_append (x ∷ xs) ys = rw (joined_append xs ys) (sym (append_assoc (f x) (joined f xs) (joined f ys)))

  joined_snoc : (xs : List A) (i : ℕ) (d : A) → i < length xs → joined f (take (suc i) xs) ≡ joined f (take i xs) ++ f (get_or xs i d)
  unfolding joined
  joined_snoc xs i d lt = rw (take-suc xs i d lt, joined_append (take i xs) (get_or xs i d ∷ []), append-nil (f (get_or xs i d)))

  pub turn_end : {old : List ℕ} {at : ℕ} {new : List ℕ} {end : ℕ} (xs : List A) (i : ℕ) → length xs ≤ i → Wrote old at (joined f (take i xs)) new end
      → Wrote old at (joined f xs) new end
  turn_end xs i le w = rw (take_all i xs le) at w

  -- a turn of a loop that writes one thing after the other
  pub turn : {old : List ℕ} {at : ℕ} {mid new : List ℕ} {place end : ℕ} (xs : List A) (i : ℕ) (d : A) → i < length xs
      → Wrote old at (joined f (take i xs)) mid place → Wrote mid place (f (get_or xs i d)) new end
      → Room old at (joined f (take i xs) ++ f (get_or xs i d)) → Wrote old at (joined f (take (i + 1) xs)) new end
  turn xs i d lt w v room = rw (add-one i, joined_snoc xs i d lt) (wrote-more w v room)

  -- where there is room for all, there is room for the next
  pub room_next : (old : List ℕ) (at : ℕ) (xs : List A) (i : ℕ) (d : A) → i < length xs → Room old at (joined f xs)
      → Room old at (joined f (take i xs) ++ f (get_or xs i d))
  room_next old at xs i d lt room =
      rw (← joined_snoc xs i d lt)
      (room-left old at (joined f (take (suc i) xs)) (joined f (drop (suc i) xs)) (rw (← joined_append (take (suc i) xs) (drop (suc i) xs), take-append-drop (suc i) xs) room))
