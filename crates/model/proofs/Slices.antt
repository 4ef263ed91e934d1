-- A list with the part from a to b replaced: its slices. Assumes nothing.
use mathlib.Core.Path.{◌≡◌, refl, sym, ap, ◌∙◌}
use Prim.Native.Nat.{ℕ, ◌+◌, ◌-◌, ◌≤◌, ◌<◌}
use native.Mathlib.Omega.{arith}
use mathlib.Core.Bool.{Bool}
use mathlib.Core.List.{List, ◌++◌, append_assoc}
use lib.ListN.{length, get_or, take, drop, length-append, length-drop, take-append-drop, get_or-append}
use lib.Seq.{slice, length-slice, length-take-le, take-take, take_at, drop_at, drop-append-le, get_or-append-add, get_or-take, get_or-drop, ext_get_or}
use Rattle.model.specs.Lists.{count_if}
use Rattle.model.proofs.Counting.{count_append}

module _ {ℓ} {A : Type ℓ} where
  -- slices that meet join
  pub slice-join : (c a d : ℕ) (l : List A) → c ≤ a → a ≤ d → d ≤ length l → slice c a l ++ slice a d l ≡ slice c d l
  slice-join c a d l ca ad dl =
      let m = take d l in
      let n : length m ≡ d = length-take-le d l dl in
      let k : length (take a m) ≡ a = length-take-le a m (omega arith) in
      ap (λ (x : List A). drop c x ++ drop a m) (sym (take-take a d l ad))
      ∙ sym (drop-append-le c (take a m) (drop a m) (omega arith))
      ∙ ap (drop c) (take-append-drop a m)

  -- the list put together again
  pub put_back : (a b : ℕ) (l : List A) → a ≤ b → take a l ++ slice a b l ++ drop b l ≡ l
  put_back a b l ab =
      ap (λ (x : List A). x ++ slice a b l ++ drop b l) (sym (take-take a b l ab))
      ∙ ap (λ (x : List A). x ++ drop b l) (take-append-drop a (take b l))
      ∙ take-append-drop b l

  -- an element of a slice
  pub get_d_slice : (c d : ℕ) (l : List A) (i : ℕ) (z : A) → c + i < d → get_or (slice c d l) i z ≡ get_or l (c + i) z
  get_d_slice c d l i z h = get_or-drop c (take d l) i z ∙ get_or-take d l (c + i) z h

  -- equal elements, equal slices
  pub slice_ext : (z : A) (c d : ℕ) (l l' : List A) → d ≤ length l → length l' ≡ length l → ((k : ℕ) → c ≤ k → k < d → get_or l' k z ≡ get_or l k z) → slice c d l' ≡ slice c d l
  slice_ext z c d l l' dl e same = ext_get_or z (slice c d l') (slice c d l) (length-slice c d l' (omega arith) ∙ sym (length-slice c d l dl)) each
    where
      each : (i : ℕ) → i < length (slice c d l') → get_or (slice c d l') i z ≡ get_or (slice c d l) i z
      each i h =
          let g : i < d - c = omega (arith, length-slice c d l' (omega arith)) in
          get_d_slice c d l' i z (omega arith) ∙ same (c + i) (omega arith) (omega arith) ∙ sym (get_d_slice c d l i z (omega arith))

  module _ (rows : List A) (a b : ℕ) (ab : a ≤ b) (bn : b ≤ length rows) (gt le : List A) (fits : length gt + length le ≡ b - a) where
    abbrev replaced : List A
    replaced = take a rows ++ gt ++ le ++ drop b rows

    front : length (take a rows) ≡ a
    front = length-take-le a rows (omega arith)

    upto-gt : length (take a rows ++ gt) ≡ a + length gt
    upto-gt = omega (arith, length-append (take a rows) gt, front)

    upto_le : length (take a rows ++ gt ++ le) ≡ b
    upto_le = omega (arith, length-append (take a rows ++ gt) le, upto-gt)

    pub length-replaced : length replaced ≡ length rows
    length-replaced = omega (arith, length-append (take a rows ++ gt ++ le) (drop b rows), upto_le, length-drop b rows)

    pub slice-gt : slice a (a + length gt) replaced ≡ gt
    slice-gt = search (arith, append_assoc, take_at, upto-gt, drop_at, front)

    pub slice-le : slice (a + length gt) b replaced ≡ le
    slice-le = ap (drop (a + length gt)) (take_at (take a rows ++ gt ++ le) (drop b rows) b upto_le) ∙ drop_at (take a rows ++ gt) le (a + length gt) upto-gt

    pub replaced-before : (z : A) (k : ℕ) → k < a → get_or replaced k z ≡ get_or rows k z
    replaced-before z k h = search (arith, get_or-append, upto_le, upto-gt, front, get_or-take)

    pub replaced-after : (z : A) (k : ℕ) → b ≤ k → get_or replaced k z ≡ get_or rows k z
    replaced-after z k h =
        ap (λ (n : ℕ). get_or replaced n z) there
        ∙ get_or-append-add (take a rows ++ gt ++ le) (drop b rows) (k - b) z
        ∙ get_or-drop b rows (k - b) z
        ∙ ap (λ (n : ℕ). get_or rows n z) back
      where
        there : k ≡ length (take a rows ++ gt ++ le) + (k - b)
        there = omega (arith, upto_le)

        back : b + (k - b) ≡ k
        back = omega arith

    pub slice-before : (z : A) (c d : ℕ) → d ≤ a → slice c d replaced ≡ slice c d rows
    slice-before z c d da = slice_ext z c d rows replaced (omega arith) length-replaced (λ k ck kd. replaced-before z k (omega arith))

    pub slice-after : (z : A) (c d : ℕ) → b ≤ c → d ≤ length rows → slice c d replaced ≡ slice c d rows
    slice-after z c d bc dn = slice_ext z c d rows replaced dn length-replaced (λ k ck kd. replaced-after z k (omega arith))

    -- a slice around the part holds each element as often as before if the part does
    pub count-around : (z : A) (p : A → Bool) → count_if p gt + count_if p le ≡ count_if p (slice a b rows) → (c d : ℕ) → c ≤ a → b ≤ d → d ≤ length rows → count_if p (slice c d replaced) ≡ count_if p (slice c d rows)
    count-around z p same c d ca bd dn =
        let n = length-replaced in
        let sum : (l : List A) → length l ≡ length rows → count_if p (slice c d l) ≡ count_if p (slice c a l) + count_if p (slice a b l) + count_if p (slice b d l) = λ l e.
        ap (count_if p) (sym (slice-join c b d l (omega arith) bd (omega arith)))
        ∙ count_append p (slice c b l) (slice b d l)
        ∙ ap (λ (m : ℕ). m + count_if p (slice b d l)) (ap (count_if p) (sym (slice-join c a b l ca ab (omega arith))) ∙ count_append p (slice c a l) (slice a b l)) in
        let mid : count_if p (slice a b replaced) ≡ count_if p gt + count_if p le =
        ap (count_if p) (sym (slice-join a (a + length gt) b replaced (omega arith) (omega arith) (omega arith)))
        ∙ count_append p (slice a (a + length gt) replaced) (slice (a + length gt) b replaced)
        ∙ ap (λ (m : ℕ). m + count_if p (slice (a + length gt) b replaced)) (ap (count_if p) slice-gt)
        ∙ ap (λ (m : ℕ). count_if p gt + m) (ap (count_if p) slice-le) in
        omega (arith, sum replaced n, sum rows refl, mid, ap (count_if p) (slice-before z c a (omega arith)), ap (count_if p) (slice-after z b d (omega arith) dn))
