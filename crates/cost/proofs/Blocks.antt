-- Lists of one length that stand end to end: how long they are, which part is which, and one more in a cell of one of them. Assumes nothing.
use mathlib.Core.Path.{◌≡◌, refl, sym, ap, ◌∙◌}
use mathlib.Core.Bool.{Bool, true, false, cond}
use mathlib.Core.List.{List, [], ◌∷◌, ◌++◌, append-nil}
use Prim.Native.Nat.{ℕ, zero, suc, ◌+◌, ◌*◌, ◌≤◌, ◌<◌}
use native.Mathlib.Nat.{suc-mul, mul-le-mul_right}
use native.Mathlib.Numerals.{add-one}
use native.Mathlib.Decide.{ℕ_discrete, dec_lt}
use native.Mathlib.Omega.{arith}
use borrow.Author.Tests.{lt-ltb, le-ltb, eq-eqb, ne_eqb, eqb-true}
use lib.Dec.{eqb, ltb}
use lib.ListN.{length, get_or, set, drop, length-append, length-set, length-drop, drop_of_length-le, get_or-append}
use lib.Seq.{paste, paste-suc, take_all, get_or-set_same, get_or-set_other, set_out, get_or-append-add, set-append_left, drop-append-le, drop-append_seam, take-append-le, take-length}
use Rattle.model.proofs.Places.{set_append_right}
use Rattle.cost.specs.Histograms.{end_to_end, part, bumped, tallied}

-- number p of n parts ends within them
pub part_end : (p n width : ℕ) → p < n → p * width + width ≤ n * width
part_end p n width h = omega (arith, mul-le-mul_right width h, suc-mul p width)

pub end_to_end_ext : (f g : ℕ → List ℕ) (n : ℕ) → ((q : ℕ) → q < n → f q ≡ g q) → end_to_end f n ≡ end_to_end g n
unfolding end_to_end
end_to_end_ext f g zero h = refl
end_to_end_ext f g (suc n) h = rw (end_to_end_ext f g n (λ q l. h q (omega arith)), h n (omega arith))

-- what is at most m in each list is at most m in all
append_low : (xs ys : List ℕ) (m : ℕ) → ((i : ℕ) → get_or xs i 0 ≤ m) → ((i : ℕ) → get_or ys i 0 ≤ m) → (i : ℕ) → get_or (xs ++ ys) i 0 ≤ m
append_low [] ys m h k i = k i
append_low (x ∷ xs) ys m h k zero = h 0
append_low (x ∷ xs) ys m h k (suc i) = append_low xs ys m (λ j. h (suc j)) k i

pub end_to_end-low : (f : ℕ → List ℕ) (n m : ℕ) → ((q i : ℕ) → get_or (f q) i 0 ≤ m) → (i : ℕ) → get_or (end_to_end f n) i 0 ≤ m
unfolding end_to_end
end_to_end-low f zero m h i = omega arith
end_to_end-low f (suc n) m h i = append_low (end_to_end f n) (f n) m (end_to_end-low f n m h) (h n) i

-- ---- a list that is written over from the front

module _ {A : Type 0} (new old : List A) (same : length new ≡ length old) where
  pub over-turn : (i : ℕ) (z v : A) → i < length old → v ≡ get_or new i z → set (paste old 0 new i) i v ≡ paste old 0 new (i + 1)
  over-turn i z v h e =
      let at : 0 + i ≡ i = omega arith in
      let there : 0 + i < length old = omega arith in
      let turn : set (paste old 0 new i) (0 + i) (get_or new i z) ≡ paste old 0 new (suc i) = paste-suc old 0 new i z there (omega arith) in
      rw (e, add-one i) (ap (λ (k : ℕ). set (paste old 0 new i) k (get_or new i z)) (sym at) ∙ turn)

  pub over-end : (i : ℕ) → i ≡ length old → paste old 0 new i ≡ new
  over-end i e = rw (take_all i new (omega arith), drop_of_length-le old {i = 0 + i} (omega arith)) (append-nil new)

-- ---- one more in each of some cells

pub tallied-length : (f : ℕ → ℕ) (n : ℕ) (cells : List ℕ) → length (tallied f n cells) ≡ length cells
unfolding tallied
tallied-length f zero cells = refl
tallied-length f (suc n) cells = simp length-set (tallied-length f n cells)

pub tallied-none : (f : ℕ → ℕ) (cells : List ℕ) → tallied f 0 cells ≡ cells
unfolding tallied
tallied-none f cells = refl

pub tallied-more : (f : ℕ → ℕ) (n : ℕ) (cells : List ℕ) → tallied f (n + 1) cells ≡ bumped (f n) (tallied f n cells)
unfolding tallied
tallied-more f n cells = rw (add-one n)

pub tallied_ext : (f g : ℕ → ℕ) (n : ℕ) (cells : List ℕ) → ((j : ℕ) → j < n → f j ≡ g j) → tallied f n cells ≡ tallied g n cells
unfolding tallied
tallied_ext f g zero cells h = refl
tallied_ext f g (suc n) cells h = rw (h n (omega arith), tallied_ext f g n cells (λ j l. h j (omega arith)))

-- each cell grows by n at most
pub tallied-low : (f : ℕ → ℕ) (n : ℕ) (cells : List ℕ) (m : ℕ) → ((i : ℕ) → get_or cells i 0 ≤ m) → (i : ℕ) → get_or (tallied f n cells) i 0 ≤ m + n
unfolding tallied
tallied-low f zero cells m h i = omega (arith, h i)
tallied-low f (suc n) cells m h i = elim (ℕ_discrete i (f n)) [ yes e ↦ here e (tallied-low f n cells m h (f n)) | no ne ↦ other ne (tallied-low f n cells m h i) ]
  where
    d : List ℕ
    d = tallied f n cells

    here : i ≡ f n → get_or d (f n) 0 ≤ m + n → get_or (bumped (f n) d) i 0 ≤ m + suc n
    here e k = rw e (elim (dec_lt (f n) (length d)) [
      | yes l ↦ rw (get_or-set_same d (f n) (get_or d (f n) 0 + 1) 0 l) (omega arith)
      | no l ↦ rw (set_out d (f n) (get_or d (f n) 0 + 1) (omega arith)) (omega arith)
    ])

    other : (i ≡ f n → ⊥) → get_or d i 0 ≤ m + n → get_or (bumped (f n) d) i 0 ≤ m + suc n
    other ne k = rw (get_or-set_other d (f n) i (get_or d (f n) 0 + 1) 0 ne) (omega arith)

-- f with another list at g
abbrev pub changed : ℕ → List ℕ → (ℕ → List ℕ) → ℕ → List ℕ
changed g l f q = cond (eqb q g) l (f q)

module _ (width : ℕ) where
  pub end_to_end-length : (f : ℕ → List ℕ) (n : ℕ) → ((q : ℕ) → q < n → length (f q) ≡ width) → length (end_to_end f n) ≡ n * width
  unfolding end_to_end
  end_to_end-length f zero h = omega arith
  end_to_end-length f (suc n) h =
      omega (arith, length-append (end_to_end f n) (f n), end_to_end-length f n (λ q l. h q (omega arith)), h n (omega arith), suc-mul n width)

  -- part p is list p
  pub end_to_end-part : (f : ℕ → List ℕ) (n p : ℕ) → ((q : ℕ) → q < n → length (f q) ≡ width) → p < n → part width p (end_to_end f n) ≡ f p
  unfolding end_to_end
  end_to_end-part f zero p h l = absurd (omega arith)
  end_to_end-part f (suc n) p h l = elim (ℕ_discrete p n) [ yes e ↦ last e | no ne ↦ earlier (omega arith) (end_to_end-part f n p (λ q j. h q (omega arith)) (omega arith)) ]
    where
      before : length (end_to_end f n) ≡ n * width
      before = end_to_end-length f n (λ q k. h q (omega arith))

      last : p ≡ n → part width p (end_to_end f n ++ f n) ≡ f p
      last e =
          let own = h n (omega arith) in
          rw (e, ← before, drop-append_seam (end_to_end f n) (f n), ← own) (take-length (f n))

      earlier : p < n → part width p (end_to_end f n) ≡ f p → part width p (end_to_end f n ++ f n) ≡ f p
      earlier k ih =
          let end = part_end p n width k in
          rw (drop-append-le (p * width) (end_to_end f n) (f n) (omega (arith, before)), take-append-le width (drop (p * width) (end_to_end f n)) (f n) (simp length-drop (omega (arith, before)))) ih

  changed-length : (g : ℕ) (l : List ℕ) (f : ℕ → List ℕ) (q : ℕ) → length l ≡ width → length (f q) ≡ width → length (changed g l f q) ≡ width
  changed-length g l f q h k = go (eqb q g)
    where
      go : (b : Bool) → length (cond b l (f q)) ≡ width
      go true = h
      go false = k

  -- one more in cell t of list g
  bumped_in : (f : ℕ → List ℕ) (n g t : ℕ) → ((q : ℕ) → q < n → length (f q) ≡ width) → g < n → t < width
      → bumped (g * width + t) (end_to_end f n) ≡ end_to_end (changed g (bumped t (f g)) f) n
  unfolding end_to_end
  bumped_in f zero g t h l k = absurd (omega arith)
  bumped_in f (suc n) g t h l k = elim (ℕ_discrete g n) [ yes e ↦ last e | no ne ↦ earlier (omega arith) (bumped_in f n g t (λ q i. h q (omega arith)) (omega arith) k) ]
    where
      E : List ℕ
      E = end_to_end f n

      before : length E ≡ n * width
      before = end_to_end-length f n (λ q j. h q (omega arith))

      last : g ≡ n → bumped (g * width + t) (E ++ f n) ≡ end_to_end (changed g (bumped t (f g)) f) n ++ changed g (bumped t (f g)) f n
      last e =
          let same : end_to_end (changed n (bumped t (f n)) f) n ≡ E = end_to_end_ext (changed n (bumped t (f n)) f) f n (λ q j. simp (ne_eqb q n (λ s. omega arith))) in
          rw (e, same, eq-eqb n n refl, ← before, get_or-append-add E (f n) t 0) (set_append_right E (f n) t (get_or (f n) t 0 + 1))

      earlier : g < n → bumped (g * width + t) E ≡ end_to_end (changed g (bumped t (f g)) f) n
          → bumped (g * width + t) (E ++ f n) ≡ end_to_end (changed g (bumped t (f g)) f) n ++ changed g (bumped t (f g)) f n
      earlier j ih =
          let end = part_end g n width j in
          let at : g * width + t < length E = omega (arith, before) in
          rw (ne_eqb n g (λ s. omega arith), get_or-append E (f n) 0 (g * width + t) at, set-append_left E (f n) (g * width + t) (get_or E (g * width + t) 0 + 1) at)
          (ap (λ (x : List ℕ). x ++ f n) ih)

  -- in each of the cells c 0, .., c (n - 1) of list g
  pub tallied_in : (f : ℕ → List ℕ) (m g : ℕ) (c : ℕ → ℕ) (n : ℕ) → ((q : ℕ) → q < m → length (f q) ≡ width) → g < m → ((j : ℕ) → j < n → c j < width)
      → tallied (λ (j : ℕ). g * width + c j) n (end_to_end f m) ≡ end_to_end (changed g (tallied c n (f g)) f) m
  unfolding tallied
  tallied_in f m g c zero h l k = end_to_end_ext f (changed g (f g) f) m (λ q j. same q (eqb q g) refl)
    where
      same : (q : ℕ) (b : Bool) → eqb q g ≡ b → f q ≡ cond b (f g) (f q)
      same q true e = ap f (eqb-true q g e)
      same q false e = refl
  tallied_in f m g c (suc n) h l k =
      let one = changed g (tallied c n (f g)) f in
      let long : (q : ℕ) → q < m → length (one q) ≡ width = λ q j. changed-length g (tallied c n (f g)) f q (tallied-length c n (f g) ∙ h g l) (h q j) in
      ap (bumped (g * width + c n)) (tallied_in f m g c n h l (λ j i. k j (omega arith)))
      ∙ bumped_in one m g (c n) long l (k n (omega arith))
      ∙ end_to_end_ext (changed g (bumped (c n) (one g)) one) (changed g (bumped (c n) (tallied c n (f g))) f) m (λ q j. twice q (eqb q g))
    where
      twice : (q : ℕ) (b : Bool) → cond b (bumped (c n) (changed g (tallied c n (f g)) f g)) (cond b (tallied c n (f g)) (f q)) ≡ cond b (bumped (c n) (tallied c n (f g))) (f q)
      twice q true = rw (eq-eqb g g refl)
      twice q false = refl

  -- one more in a cell of each list
  pub tallied-each : (f : ℕ → List ℕ) (m : ℕ) (x : ℕ → ℕ) → ((q : ℕ) → q < m → length (f q) ≡ width) → ((q : ℕ) → q < m → x q < width)
      → tallied (λ (q : ℕ). q * width + x q) m (end_to_end f m) ≡ end_to_end (λ (q : ℕ). bumped (x q) (f q)) m
  unfolding tallied
  tallied-each f m x h k =
      upto m (omega arith) ∙ end_to_end_ext (first m) (λ (q : ℕ). bumped (x q) (f q)) m (λ q l. rw (lt-ltb q m l))
    where
      first : ℕ → ℕ → List ℕ
      first n q = cond (ltb q n) (bumped (x q) (f q)) (f q)

      first-length : (n q : ℕ) → q < m → length (first n q) ≡ width
      first-length n q j = go (ltb q n)
        where
          go : (b : Bool) → length (cond b (bumped (x q) (f q)) (f q)) ≡ width
          go true = simp length-set (h q j)
          go false = h q j

      next : (n q : ℕ) → changed n (bumped (x n) (first n n)) (first n) q ≡ first (suc n) q
      next n q = elim (ℕ_discrete q n) [
        | yes e ↦ rw (e, eq-eqb n n refl, le-ltb n n (omega arith), lt-ltb n (suc n) (omega arith))
        | no ne ↦ rw (ne_eqb q n ne) (elim (dec_lt q n) [
          | yes l ↦ rw (lt-ltb q n l, lt-ltb q (suc n) (omega arith))
          | no l ↦ rw (le-ltb q n (omega arith), le-ltb q (suc n) (omega arith))
        ])
      ]

      upto : (n : ℕ) → n ≤ m → tallied (λ (q : ℕ). q * width + x q) n (end_to_end f m) ≡ end_to_end (first n) m
      upto zero l = end_to_end_ext f (first 0) m (λ q j. rw (le-ltb q 0 (omega arith)))
      upto (suc n) l =
          ap (bumped (n * width + x n)) (upto n (omega arith))
          ∙ bumped_in (first n) m n (x n) (λ q j. first-length n q j) (omega arith) (k n (omega arith))
          ∙ end_to_end_ext (changed n (bumped (x n) (first n n)) (first n)) (first (suc n)) m (λ q j. next n q)
